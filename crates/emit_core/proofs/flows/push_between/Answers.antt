use Rattle.emit_core.specs.FlowTable.{from_host}
use Rattle.emit_core.proofs.HostSteps.{grow_host}
use Rattle.emit_core.proofs.flows.push_between.Goals as goal

pub loop-from-preserved : goal.loop-from-preserved
loop-from-preserved c =
    let policy = c.args.policy.now in
    grow_host (from_host policy.site policy.permitted c.args.rest) _ _ _ _ _ _
    c.prefixes.ensures c.loop-from.invariant c.in_ok-push_from_host.ensures
