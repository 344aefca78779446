-- The contract of the code that reads rules. No promise of `run` depends on it.
use Rattle.std.specs.Prelude.{◌≡◌, ℕ, List, Result, Ok, Err, codes}
use Rattle.rules_space.specs.Rules.{AnyRules}
use Rattle.run_core.specs.Dialects.{rule_dialect_of}
use Rattle.run_core.specs.Replies.{StopsRunAt}
use Rattle.run_core.specs.Reply.{Reply}
use Rattle.run_core.specs.Shelf.{ShelfChange}
use Rattle.run_core.specs.Tables.{HasRules, TableRules}
use Rattle.run_core.specs.TextFault.{fault_line}
use Rattle.run_core.specs.inner.Reads.{MayRead, ReadRules}
use Rattle.run_core.specs.inner.Views.{rules_view}
use Rattle.run_core.specs.declared.dialect.Dialect.{Dialect}
use Rattle.run_core.specs.declared.dialect.Dialect.TheVariants.{Nft}
use Rattle.run_core.specs.declared.dialect.tables.TableWithChains.{TableWithChains}
use Rattle.run_core.specs.declared.dialect.Rules.{Rules}
use Rattle.run_core.specs.declared.dialect.RulesFault.{RulesFault}
use Rattle.run_core.specs.declared.dialect.RulesFault.TheVariants.{Refused, Memory}
use Rattle.query_top.specs.PlainRules.{plain_rules}

abbrev pub MayReadPlainRules : Dialect → (file : List ℕ) → ShelfChange → Result AnyRules Reply → Type 0
MayReadPlainRules dialect file shelf (Ok audited) = ReadRules dialect (λ said. MayRead (plain_rules dialect) file shelf (Ok said)) audited
MayReadPlainRules dialect file shelf (Err given) = StopsRunAt shelf (plain_rules dialect) file given

abbrev pub MayReadPlainTable : (file : List ℕ) → ShelfChange → Result TableWithChains Reply → Type 0
MayReadPlainTable file shelf (Ok read) =
    (said : TableRules) × (read.chains ≡ said.chains) × HasRules read.table said × MayRead (plain_rules Nft) file shelf (Ok said)
MayReadPlainTable file shelf (Err given) = StopsRunAt shelf (plain_rules Nft) file given

-- The line and the reason report a fault of the bytes in a dialect, or a line that other programs may read otherwise, unless memory ran out.
abbrev pub IsPlainFault : Dialect → (bytes : List ℕ) → RulesFault → Type 0
IsPlainFault dialect bytes (Refused line reason) = (plain_rules dialect).Refuses bytes (fault_line (codes "rules") line reason.now)
IsPlainFault dialect bytes Memory = Unit {0}

-- The result of parsing bytes in a dialect, if other programs read them in the same way: rules, in the form of an audit, or a fault.
abbrev pub IsReadPlainly : Dialect → (bytes : List ℕ) → Result Rules RulesFault → Type 0
IsReadPlainly dialect bytes (Ok rules) =
    (said : (rule_dialect_of dialect).Rules) × (rules_view rules ≡ (rule_dialect_of dialect).audited said) × (plain_rules dialect).Reads bytes said
IsReadPlainly dialect bytes (Err fault) = IsPlainFault dialect bytes fault
