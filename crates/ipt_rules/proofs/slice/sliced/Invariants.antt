use Rattle.ipt_rules.proofs.SliceLaws.{SlicesWith}
use Rattle.ipt_rules.proofs.slice.sliced.Given as goal

abbrev pub invariant-loop-at : goal.invariant-loop-at
invariant-loop-at l = SlicesWith l.within l.marks l.chains l.at l.sliced.items
