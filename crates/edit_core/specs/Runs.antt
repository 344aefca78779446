-- Edits in sequence.
use Rattle.std.specs.Prelude.{◌≡◌, ℕ, List, [], ◌∷◌, ◌++◌, Result, Ok, Err}
use Rattle.std.specs.Result.{result_map_both}
use Rattle.edit_core.specs.Edited.{◌>>=◌, after_edit}
use Rattle.edit_core.specs.Summaries.{IsSummary}
use Rattle.edit_core.specs.declared.fault.EditWhy.{EditWhy}
use Rattle.edit_core.specs.declared.run.EditRefusal.{EditRefusal}
use Rattle.edit_core.specs.declared.run.EditRefusal.TheVariants.{Refused, Memory}
use Rattle.edit_core.specs.declared.summary.Summary.{Summary}
use Rattle.edit_core.specs.Edit.{Edit}
use Rattle.toml.specs.Data.{Members}

-- The table after all edits; or, if an edit is refused on the table that the edits before it leave, its line and the
-- reason.
abbrev pub after_edits : List Edit → Members → Result Members (ℕ × EditWhy)
after_edits [] table = Ok table
after_edits (e ∷ es) table = result_map_both (λ next. next) (λ why. (e.line, why)) (after_edit e.change table) >>= after_edits es

-- A summary for each edit, of the table that it leaves.
abbrev pub AreSummaries : List Edit → Members → List Summary → Type 0
AreSummaries [] table [] = Unit {0}
AreSummaries (e ∷ es) table (s ∷ ss) = (next : Members) × (after_edit e.change table ≡ Ok next) × IsSummary next s × AreSummaries es next ss
AreSummaries _ table _ = ⊥

-- The first edit of the list is refused on the table for this reason. If memory runs out, nothing is known of it.
abbrev pub IsRefusedFirst : List Edit → Members → EditRefusal → Type 0
IsRefusedFirst edits table (Refused line why) =
    (e : Edit) × (later : List Edit) × (edits ≡ e ∷ later) × (e.line ≡ line) × (after_edit e.change table ≡ Err why)
IsRefusedFirst edits table Memory = Unit {0}

-- A run stops at an edit that is refused: the edits before it lead from the old table to the new one, and it is refused on the new one.
pub record StopsAt (edits : List Edit) (old new : Members) (why : EditRefusal) : Type 0 where
  pub before : List Edit
  pub rest : List Edit
  pub all : edits ≡ before ++ rest
  pub led : after_edits before old ≡ Ok new
  pub refused : IsRefusedFirst rest new why
