-- The refused edit among several edits.
use Rattle.std.specs.Prelude.{◌≡◌, ℕ, Result, Err}
use Rattle.edit_core.specs.declared.fault.EditWhy.{EditWhy}
use Rattle.edit_core.specs.declared.run.EditRefusal.{EditRefusal}
use Rattle.edit_core.specs.declared.run.EditRefusal.TheVariants as refusal

-- An edit is refused, with this line and reason. Memory may run out instead at any time.
abbrev pub IsCause : {A : Type 0} → Result A (ℕ × EditWhy) → EditRefusal → Type 0
IsCause said (refusal.Refused line why) = said ≡ Err (line, why)
IsCause said refusal.Memory = Unit {0}
