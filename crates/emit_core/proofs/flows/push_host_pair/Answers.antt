use Rattle.emit_core.specs.FlowTable.{from_prefix}
use Rattle.emit_core.proofs.EntrySteps.{grow_prefix}
use Rattle.emit_core.proofs.flows.push_host_pair.Goals as goal

pub loop-source-preserved : goal.loop-source-preserved
loop-source-preserved c =
    grow_prefix (from_prefix c.args.flow.now.permitted c.args.flow.now.services.now c.args.rest c.args.destinations.now) c.args.sources.now c.loop-source.source-index c.source-item.result _ _ _
    c.loop-source-test.true c.source-item.is c.loop-source.invariant c.in_ok-push_from_prefix.ensures
