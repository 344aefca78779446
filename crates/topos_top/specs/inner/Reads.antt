-- The contract of the code that reads rules. No promise of `run` depends on it.
use Rattle.std.specs.Prelude.{◌≡◌, ℕ, List, Result, Ok, Err}
use Rattle.rules_space.specs.Rules.{AnyRules}
use Rattle.run_core.specs.Dialects.{rule_dialect_of}
use Rattle.run_core.specs.Replies.{StopsRunAt}
use Rattle.run_core.specs.Reply.{Reply}
use Rattle.run_core.specs.Shelf.{ShelfChange}
use Rattle.run_core.specs.declared.dialect.Dialect.{Dialect}
use Rattle.run_core.specs.inner.Reads.{MayRead, ReadRules}
use Rattle.topos_top.specs.FileFormats.{rules}

abbrev pub MayReadRules : Dialect → (file : List ℕ) → ShelfChange → Result AnyRules Reply → Type 0
MayReadRules dialect file shelf (Ok audited) = ReadRules dialect (λ said. MayRead (rules dialect) file shelf (Ok said)) audited
MayReadRules dialect file shelf (Err given) = StopsRunAt shelf (rules dialect) file given

-- Some bytes parse to these rules, which have this form in an audit.
abbrev pub ParsesTo : (dialect : Dialect) → AnyRules → (rule_dialect_of dialect).Rules → Type 0
ParsesTo dialect audited said = (audited ≡ (rule_dialect_of dialect).audited said) × (bytes : List ℕ) × (rule_dialect_of dialect).IsReading bytes said
