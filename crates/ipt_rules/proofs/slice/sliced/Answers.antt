use Rattle.ipt_rules.proofs.SliceLaws.{slices_done}
use Rattle.ipt_rules.proofs.slice.sliced.Goals as goal

pub returns : goal.returns
returns c = slices_done c.args.within.now c.args.marks.now c.args.chains.now c.loop-at.sliced.items c.loop-at.at c.loop-at-test.false c.loop-at.invariant
