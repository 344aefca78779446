use Rattle.emit_core.specs.inner.RestEntries.{prefix_on}
use Rattle.emit_core.proofs.EntrySteps.{grow_prefix}
use Rattle.emit_core.proofs.rest_flows.push_prefixes.Goals as goal

pub loop-prefix-preserved : goal.loop-prefix-preserved
loop-prefix-preserved c =
    grow_prefix (prefix_on c.args.side c.args.flow.now.services.now) c.args.prefixes.now c.loop-prefix.prefix-index c.prefix-item.result _ _ _
    c.loop-prefix-test.true c.prefix-item.is c.loop-prefix.invariant c.in_ok-push_prefix.ensures
