-- The models of the pair types, and the specification of a function argument that computes a test.
use Rattle.std.specs.Prelude.{◌≡◌, Bool}
use Rattle.std.specs.Fn.{Shared}
use denote.Ref.{Bor}
use Rattle.text_core.specs.FirstMatch as meant
use Rattle.text_core.specs.declared.firsts.Numbered.{Numbered}
use Rattle.text_core.specs.declared.firsts.Conflict.{Conflict}

abbrev pub numbered_seen : {T : Type 0} → Numbered T → meant.Numbered T
numbered_seen n = record { number = n.number; what = n.what.now }

abbrev pub pair_seen : {T : Type 0} → Conflict T → meant.Conflict (meant.Numbered T)
pair_seen p = record { later = numbered_seen p.later; earlier = numbered_seen p.earlier }

-- For a later and an earlier element the function returns the result of the test.
abbrev pub Tests : {F T : Type 0} → Shared F (Bor T × (Bor T × Unit {0})) Bool → F → (T → T → Bool) → Type 0
Tests {F} {T} calls f test = (later earlier : Bor T) (answer : Bool) → calls.post f (later, (earlier, tt)) answer → answer ≡ test later.now earlier.now
