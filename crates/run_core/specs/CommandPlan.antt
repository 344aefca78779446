-- The plan of a command: the files that it reads, in order, and then its outcomes for their contents.
use Rattle.std.specs.Prelude.{◌⊎◌, List, ℕ}
use Rattle.run_core.specs.Outcomes.{Outcomes}
use Rattle.run_core.specs.Shelf.{Shelf, Holds, ConsumesBytes}
use Rattle.run_core.specs.FileFormats.{FileFormat}

-- A plan either reads a file and continues by its parse result, or ends with a list of outcomes.
pub data CommandPlan : Type 1 where
  reads : (format : FileFormat) (file : List ℕ) → (format.Said → CommandPlan) → CommandPlan
  ends : Outcomes → CommandPlan

-- A plan without files.
abbrev pub ReadsNothing : CommandPlan → Type 0
ReadsNothing (reads format file next) = ⊥
ReadsNothing (ends outcomes) = Unit {0}

-- A file was accepted with this parse result, and `Next` holds for the rest of the plan with the shelf after it.
pub record Accepted (only_failures : Type 0) (shelf : Shelf) (format : FileFormat) (file : List ℕ) (Next : format.Said → Shelf → Type 0) : Type 0 where
  pub bytes : List ℕ
  pub held : Holds shelf file bytes
  pub said : format.Said
  pub read : format.Reads bytes said
  pub after : Shelf
  pub took : ConsumesBytes only_failures format.most bytes shelf after
  pub next : Next said after

-- The point of the plan at which a run from this shelf stopped: at a file, after every earlier file was accepted; or at the outcomes, after
-- all files were accepted. `only_failures` states that the shelf counts an error only if a call fails.
abbrev pub HoldsAtStop : Type 0 → CommandPlan → Shelf → (at_file : FileFormat → (file : List ℕ) → Shelf → Type 0) → (at_outcomes : Outcomes → Shelf → Type 0) → Type 0
HoldsAtStop only_failures (reads format file next) shelf at_file at_outcomes =
    at_file format file shelf ⊎ Accepted only_failures shelf format file (λ said after. HoldsAtStop only_failures (next said) after at_file at_outcomes)
HoldsAtStop only_failures (ends outcomes) shelf at_file at_outcomes = at_outcomes outcomes shelf
