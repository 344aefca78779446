use Rattle.std.proofs.Common.{◌∙◌, ap, Bool, List}
use Rattle.host_net.specs.declared.service.Service.{Service}
use Rattle.emit_core.specs.Directions.{connects, services_on}
use Rattle.emit_core.specs.inner.KeptEntries.{with_entries}
use Rattle.emit_core.specs.inner.RestEntries.{prefixes_on}
use Rattle.emit_core.proofs.HostSteps.{grow_host}
use Rattle.emit_core.proofs.rest_flows.push_on_side.Goals as goal

pub loop-host-preserved : goal.loop-host-preserved
loop-host-preserved c =
    let policy = c.args.policy.now in
    let side = c.args.side in
    let qs = c.prefixes.result.now in
    grow_host (λ i xs. prefixes_on side (connects side policy.permitted i c.args.rest) (services_on side policy.site.services i c.args.rest) xs) _ _ _ _ _ _
    c.prefixes.ensures c.loop-host.invariant
    (c.in_ok-push_prefixes.ensures
    ∙ ap (λ (b : Bool). with_entries c.loop-host.entries (prefixes_on side b c.on-flow.result.services.now qs)) c.on-flow.ensures.permitted
    ∙ ap (λ (ss : List Service). with_entries c.loop-host.entries (prefixes_on side (connects side policy.permitted c.loop-host.host c.args.rest) ss qs)) c.on-flow.ensures.services)
