use Rattle.flow_set.proofs.FullRows.{AreOthers}
use Rattle.flow_set.proofs.set.FlowSet.full.Given as goal

abbrev pub invariant-loop-from : goal.invariant-loop-from
invariant-loop-from l = AreOthers l.size l.from l.rows.items
