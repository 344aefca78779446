use Rattle.std.proofs.Common.{◌≡◌, ◌≤◌, ℕ, length, List, sym, subst, refl}
use Rattle.std.specs.Prelude.{Result, Ok, Err, IfOk, IfErr, MatchResult}
use Rattle.text_core.specs.inner.TextAnswers.{HasCause, IsFault}
use Rattle.text_core.specs.declared.faults.TextFault.{TextFault}
use Rattle.text_core.specs.declared.faults.TextFault.TheVariants.{Refused, Memory}
use Rattle.ipt_rules.specs.Chain.{Chain}
use Rattle.ipt_rules.specs.Text.{text}
use Rattle.ipt_rules.specs.inner.Writable.{IsWritable}
use Rattle.ipt_read.specs.declared.fault.IptWhy.{IptWhy}
use Rattle.ipt_read.proofs.AgainLaws.{text_read_again}
use Rattle.ipt_read.proofs.FaultLaws.{one_reading, one_fault, no_reading_with_fault}
use Rattle.ipt_read.specs.TextLines.{rules_text, HasFaultInRules, IsReadingOfRules}
use Rattle.ipt_read.specs.inner.State.{IsFine}
use Rattle.ipt_read.proofs.FineLaws.{fine_at_first}
use Rattle.ipt_read.proofs.whole.read.Goals as goal

only : (bytes : List ℕ) (r : Result (List Chain) (TextFault IptWhy)) (chains : List Chain) → IfOk r (IsReadingOfRules bytes)
    → IfErr r (HasCause rules_text bytes) → IsReadingOfRules bytes chains
    → MatchResult r (λ rules. rules ≡ chains) (λ fault. fault ≡ Memory)
only bytes (Ok rules) chains found cause reading = one_reading bytes rules chains found reading
only bytes (Err (Refused line why)) chains found cause reading = absurd (no_reading_with_fault bytes chains line why cause reading)
only bytes (Err Memory) chains found cause reading = refl

faulty : (bytes : List ℕ) (r : Result (List Chain) (TextFault IptWhy)) (line : ℕ) (why : IptWhy) → IfOk r (IsReadingOfRules bytes)
    → IfErr r (HasCause rules_text bytes) → HasFaultInRules bytes line why → MatchResult r (λ rules. ⊥) (IsFault line why)
faulty bytes (Ok rules) line why found cause fault = no_reading_with_fault bytes rules line why fault found
faulty bytes (Err (Refused told reason)) line why found cause fault = one_fault bytes told line reason why cause fault
faulty bytes (Err Memory) line why found cause fault = tt

written : (bytes : List ℕ) (chains : List Chain) → IsWritable chains → bytes ≡ text chains
    → length bytes ≤ 67108864 → IsReadingOfRules bytes chains
written bytes chains fine e short =
    subst (λ (bs : List ℕ). IsReadingOfRules bs chains) (sym e)
    (text_read_again chains fine (subst (λ (bs : List ℕ). length bs ≤ 67108864) e short))

pub read_counted_lines-requires-clause-holds : goal.read_counted_lines-requires-clause-holds
read_counted_lines-requires-clause-holds c = subst IsFine (sym c.in-Ok.ensures) fine_at_first

pub returns-in-Ok-read_counted_lines-clause-only : goal.returns-in-Ok-read_counted_lines-clause-only
returns-in-Ok-read_counted_lines-clause-only c = λ chains reading.
    only c.args.bytes.now c.end.result chains c.end.ensures.found c.end.ensures.refused reading

pub returns-in-Ok-read_counted_lines-clause-faulty : goal.returns-in-Ok-read_counted_lines-clause-faulty
returns-in-Ok-read_counted_lines-clause-faulty c = λ line why fault.
    faulty c.args.bytes.now c.end.result line why c.end.ensures.found c.end.ensures.refused fault

pub returns-in-Ok-read_counted_lines-clause-again : goal.returns-in-Ok-read_counted_lines-clause-again
returns-in-Ok-read_counted_lines-clause-again c = λ chains fine is short.
    only c.args.bytes.now c.end.result chains c.end.ensures.found c.end.ensures.refused (written c.args.bytes.now chains fine is short)

pub returns-in_default-clause-written : goal.returns-in_default-clause-written
returns-in_default-clause-written c = written c.args.bytes.now

pub returns-in-Ok-read_counted_lines-clause-written : goal.returns-in-Ok-read_counted_lines-clause-written
returns-in-Ok-read_counted_lines-clause-written c = written c.args.bytes.now

pub returns-in-Err-clause-written : goal.returns-in-Err-clause-written
returns-in-Err-clause-written c = written c.args.bytes.now

pub returns-in-Err-clause-only : goal.returns-in-Err-clause-only
returns-in-Err-clause-only c = λ chains reading. only c.args.bytes.now (Err c.in-Err.fault) chains tt c.in-Err.ensures.refused reading

pub returns-in-Err-clause-faulty : goal.returns-in-Err-clause-faulty
returns-in-Err-clause-faulty c = λ line why fault.
    faulty c.args.bytes.now (Err c.in-Err.fault) line why tt c.in-Err.ensures.refused fault

pub returns-in-Err-clause-again : goal.returns-in-Err-clause-again
returns-in-Err-clause-again c = λ chains fine is short.
    only c.args.bytes.now (Err c.in-Err.fault) chains tt c.in-Err.ensures.refused (written c.args.bytes.now chains fine is short)
