use Rattle.std.proofs.Common.{OnOk, subst}
use Rattle.pkt_core.specs.FlowPolicy.{FlowPolicy}
use Rattle.host_emit.specs.HostEnforcement.{PassesOn}
use Rattle.host_emit.specs.LocalEvents.{DeliversAsExpected}
use Rattle.host_emit.specs.LocalLayout.{local_layout}
use Rattle.host_emit.proofs.emit.emit_local.Goals as goal

pub returns-clause-passes : goal.returns-clause-passes
returns-clause-passes c =
    subst (λ (policy : FlowPolicy). OnOk c.local_rules.result (DeliversAsExpected (λ h. PassesOn (local_layout policy h)) policy))
    c.new.ensures c.local_rules.ensures.passes
