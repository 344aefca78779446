use Rattle.emit_core.specs.FlowTable.{pair_entries}
use Rattle.emit_core.proofs.EntrySteps.{grow_prefix}
use Rattle.emit_core.proofs.flows.push_from_prefix.Goals as goal

pub loop-destination-preserved : goal.loop-destination-preserved
loop-destination-preserved c =
    grow_prefix (pair_entries c.args.flow.now.permitted c.args.flow.now.services.now c.args.rest c.args.source) c.args.destinations.now c.loop-destination.destination-index c.destination-item.result _ _ _
    c.loop-destination-test.true c.destination-item.is c.loop-destination.invariant c.in_ok-push_pair.ensures
