-- The contract of the code that reads a file. No promise of `run` depends on it.
use Rattle.std.specs.Prelude.{◌≡◌, ℕ, List, Result, Ok, Err, Some}
use Rattle.rules_space.specs.Rules.{AnyRules}
use Rattle.run_core.specs.Dialects.{rule_dialect_of}
use Rattle.run_core.specs.FileFormats.{FileFormat}
use Rattle.run_core.specs.Replies.{StopsRunAt}
use Rattle.run_core.specs.Reply.{Reply}
use Rattle.run_core.specs.Shelf.{ShelfChange, ObservesFile, ConsumesBytes}
use Rattle.run_core.specs.declared.dialect.Dialect.{Dialect}

-- The bytes of a file were read.
pub record ConsumesFile (shelf : ShelfChange) (format : FileFormat) (file bytes : List ℕ) : Type 0 where
  pub held : ObservesFile shelf file (Some bytes)
  pub took : ConsumesBytes shelf.only_failures format.most bytes shelf.before shelf.after

abbrev pub MayTake : FileFormat → (file : List ℕ) → ShelfChange → Result (List ℕ) Reply → Type 0
MayTake format file shelf (Ok bytes) = ConsumesFile shelf format file bytes
MayTake format file shelf (Err given) = StopsRunAt shelf format file given

-- The possible results of reading a file.
abbrev pub MayRead : (format : FileFormat) → (file : List ℕ) → ShelfChange → Result format.Said Reply → Type 0
MayRead format file shelf (Ok said) = (bytes : List ℕ) × ConsumesFile shelf format file bytes × format.Reads bytes said
MayRead format file shelf (Err given) = StopsRunAt shelf format file given

-- Rules of a dialect were read, in the form of an audit.
pub record ReadRules (dialect : Dialect) (Read : (rule_dialect_of dialect).Rules → Type 0) (rules : AnyRules) : Type 0 where
  pub said : (rule_dialect_of dialect).Rules
  pub told : rules ≡ (rule_dialect_of dialect).audited said
  pub read : Read said
