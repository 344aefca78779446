use Rattle.std.proofs.Common.{arith, ap, length}
use Rattle.text_core.proofs.LinesLaws.{length-lines}
use Rattle.ipt_plain.proofs.text.first_fault.Goals as goal

pub overflow_add-number : goal.overflow_add-number
overflow_add-number c = omega (arith, length-lines c.args.bytes.now, c.loop-line.invariant.few, c.requires, ap length c.in-Some.ensures.next)
