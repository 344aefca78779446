use Rattle.std.proofs.Common.{◌≡◌, ℕ, List, sym, subst}
use Rattle.std.specs.Prelude.{Result, Ok, Err, IfOk, IfErr, MatchResult}
use Rattle.text_core.specs.LineFormat.{IsReadToEnd}
use Rattle.text_core.proofs.LineFormatLaws.{told_reading, told_fault}
use Rattle.text_core.specs.inner.TextAnswers.{HasCause, IsFault}
use Rattle.text_core.specs.declared.faults.TextFault.{TextFault}
use Rattle.text_core.specs.declared.faults.TextFault.TheVariants.{Memory}
use Rattle.ofp_rules.specs.declared.entry.Entry.{Entry}
use Rattle.ofp_rules.specs.inner.Build.{IsTable}
use Rattle.ofp_rules.specs.Text.{text}
use Rattle.ofp_read.specs.declared.fault.OfpWhy.{OfpWhy}
use Rattle.ofp_read.proofs.AgainLaws.{text_read_again}
use Rattle.ofp_read.proofs.FaultLaws.{flows_settled}
use Rattle.ofp_read.specs.TextLines.{flows_text, HasFaultInFlows, IsReadingOfFlows}
use Rattle.ofp_read.proofs.whole.read.Goals as goal

abbrev Answer : Type 0
Answer = Result (List Entry) (TextFault OfpWhy)

found : (bytes : List ℕ) (entries : List Entry) → IsReadToEnd flows_text bytes entries → IsReadingOfFlows bytes entries
found bytes entries through = record { short = through.short; told = through.told; ends = tt }

only : (bytes : List ℕ) (r : Answer) (entries : List Entry) → IfOk r (IsReadingOfFlows bytes) → IfErr r (HasCause flows_text bytes)
    → IsReadingOfFlows bytes entries → MatchResult r (λ table. table ≡ entries) (λ fault. fault ≡ Memory)
only bytes r entries read cause reading = told_reading flows_text flows_settled (λ (x : List Entry). x) bytes r entries read cause reading

faulty : (bytes : List ℕ) (r : Answer) (line : ℕ) (why : OfpWhy) → IfOk r (IsReadingOfFlows bytes) → IfErr r (HasCause flows_text bytes)
    → HasFaultInFlows bytes line why → MatchResult r (λ table. ⊥) (IsFault line why)
faulty bytes r line why read cause fault = told_fault flows_text flows_settled (λ (x : List Entry). x) bytes r line why read cause fault

written : (bytes : List ℕ) (entries : List Entry) → IsTable entries → bytes ≡ text entries → IsReadingOfFlows bytes entries
written bytes entries table is = subst (λ (bs : List ℕ). IsReadingOfFlows bs entries) (sym is) (text_read_again entries table)

pub returns-in-Ok-read_lines-clause-only : goal.returns-in-Ok-read_lines-clause-only
returns-in-Ok-read_lines-clause-only c = λ entries reading.
    only c.args.bytes.now (Ok c.in-Ok-read_lines.reader.table) entries (found c.args.bytes.now c.in-Ok-read_lines.reader.table c.in-Ok-read_lines.ensures.read) tt reading

pub returns-in-Ok-read_lines-clause-faulty : goal.returns-in-Ok-read_lines-clause-faulty
returns-in-Ok-read_lines-clause-faulty c = λ line why fault.
    faulty c.args.bytes.now (Ok c.in-Ok-read_lines.reader.table) line why (found c.args.bytes.now c.in-Ok-read_lines.reader.table c.in-Ok-read_lines.ensures.read) tt fault

pub returns-in-Ok-read_lines-clause-again : goal.returns-in-Ok-read_lines-clause-again
returns-in-Ok-read_lines-clause-again c = λ entries table is.
    only c.args.bytes.now (Ok c.in-Ok-read_lines.reader.table) entries (found c.args.bytes.now c.in-Ok-read_lines.reader.table c.in-Ok-read_lines.ensures.read) tt
    (written c.args.bytes.now entries table is)

pub returns-in_default-clause-written : goal.returns-in_default-clause-written
returns-in_default-clause-written c = written c.args.bytes.now

pub returns-in-Ok-read_lines-clause-written : goal.returns-in-Ok-read_lines-clause-written
returns-in-Ok-read_lines-clause-written c = written c.args.bytes.now

pub returns-in-Err-clause-written : goal.returns-in-Err-clause-written
returns-in-Err-clause-written c = written c.args.bytes.now

pub returns-in-Err-clause-only : goal.returns-in-Err-clause-only
returns-in-Err-clause-only c = λ entries reading. only c.args.bytes.now (Err c.in-Err.fault) entries tt c.in-Err.ensures.refused reading

pub returns-in-Err-clause-faulty : goal.returns-in-Err-clause-faulty
returns-in-Err-clause-faulty c = λ line why fault.
    faulty c.args.bytes.now (Err c.in-Err.fault) line why tt c.in-Err.ensures.refused fault

pub returns-in-Err-clause-again : goal.returns-in-Err-clause-again
returns-in-Err-clause-again c = λ entries table is.
    only c.args.bytes.now (Err c.in-Err.fault) entries tt c.in-Err.ensures.refused (written c.args.bytes.now entries table is)
