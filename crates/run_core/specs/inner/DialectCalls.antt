-- The contracts of the calls of a dialect. No promise of `run` depends on them.
use Rattle.std.specs.Prelude.{◌≡◌, ℕ, List, Result, Ok, Err, codes}
use Rattle.std.specs.Global.{Global}
use Rattle.std.specs.declared.vec.Vec.{Vec}
use Rattle.pkt_core.specs.FlowPolicy.{FlowPolicy}
use Rattle.run_core.specs.Dialects.{IsLayoutText, rule_dialect_of}
use Rattle.run_core.specs.Tables.{HasRules, IsReadingOfTable, TableRules}
use Rattle.run_core.specs.TextFault.{fault_line}
use Rattle.run_core.specs.inner.Views.{rules_view, text_view}
use Rattle.run_core.specs.declared.dialect.Dialect.{Dialect}
use Rattle.run_core.specs.declared.dialect.Dialect.TheVariants.{Nft}
use Rattle.run_core.specs.declared.dialect.Rules.{Rules}
use Rattle.run_core.specs.declared.dialect.RulesFault.{RulesFault}
use Rattle.run_core.specs.declared.dialect.RulesFault.TheVariants.{Refused, Memory}
use Rattle.run_core.specs.declared.dialect.tables.TableWithChains.{TableWithChains}
use Rattle.run_core.specs.declared.text.Text.{Text}

-- The line and the reason report a fault of the bytes in a dialect, unless memory ran out.
abbrev pub IsFault : Dialect → (bytes : List ℕ) → RulesFault → Type 0
IsFault dialect bytes (Refused line reason) = (rule_dialect_of dialect).Refuses bytes (fault_line (codes "rules") line reason.now)
IsFault dialect bytes Memory = Unit {0}

-- The result of parsing bytes in a dialect: rules, in the form of an audit, or a fault.
abbrev pub IsRead : Dialect → (bytes : List ℕ) → Result Rules RulesFault → Type 0
IsRead dialect bytes (Ok rules) = (said : (rule_dialect_of dialect).Rules) × (rules_view rules ≡ (rule_dialect_of dialect).audited said) × (rule_dialect_of dialect).IsReading bytes said
IsRead dialect bytes (Err fault) = IsFault dialect bytes fault

-- The result of the layout of a policy in a dialect: the text of its rules, or the line with the reason why they cannot be emitted.
abbrev pub IsWritten : Dialect → FlowPolicy → Result Text (Vec ℕ Global) → Type 0
IsWritten dialect policy (Ok text) = (rule_dialect_of dialect).CanWrite policy × IsLayoutText (rule_dialect_of dialect) policy (text_view text)
IsWritten dialect policy (Err line) = (rule_dialect_of dialect).CannotEmit line.items policy

-- The result of parsing bytes to a table: the table with its chains, or a fault.
abbrev pub IsTableRead : (bytes : List ℕ) → Result TableWithChains RulesFault → Type 0
IsTableRead bytes (Ok read) = (said : TableRules) × (read.chains ≡ said.chains) × HasRules read.table said × IsReadingOfTable bytes said
IsTableRead bytes (Err fault) = IsFault Nft bytes fault
