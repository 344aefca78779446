use Rattle.std.proofs.Common.{◌≡◌, ◌<◌, ◌++◌, ◌∷◌, [], ℕ, List, length}
use Rattle.std.specs.Prelude.{Result, Ok, Err, IfOk}
use Rattle.text_core.specs.declared.faults.LineFault.{LineFault}
use Rattle.ofp_rules.specs.declared.entry.Entry.{Entry}
use Rattle.ofp_rules.specs.Ambiguity.{ContradictsNone, most_entries}
use Rattle.ofp_read.specs.declared.fault.OfpWhy.{OfpWhy}
use Rattle.ofp_read.specs.declared.whole.FlowReader.{FlowReader}
use Rattle.ofp_read.specs.Grammar.{Writes, AddsEntry}
use Rattle.ofp_read.specs.TextLines.{unwritten}
use Rattle.ofp_read.proofs.whole.FlowReaderLineReader.read_line.Goals as goal

added : (n : ℕ) (before : List Entry) (line : List ℕ) (e : Entry) (r : Result FlowReader (LineFault OfpWhy)) → Writes line e
    → IfOk r (λ now. now.table ≡ before ++ e ∷ []) → IfOk r (λ now. length before < most_entries) → IfOk r (λ now. ContradictsNone before e)
    → IfOk r (λ now. AddsEntry n before line now.table)
added n before line e (Ok now) writes is few clear = (e, writes, few, clear, is)
added n before line e (Err fault) writes is few clear = tt

pub returns-in-Ok-clause-ok : goal.returns-in-Ok-clause-ok
returns-in-Ok-clause-ok c =
    added c.args.number c.args.self.table c.args.line.now c.in-Ok.entry c.with_entry.result c.in-Ok.ensures.ok
    c.with_entry.ensures.added c.with_entry.ensures.few c.with_entry.ensures.clear

pub returns-in-Err-clause-err : goal.returns-in-Err-clause-err
returns-in-Err-clause-err c = unwritten c.in-Err.ensures.err
