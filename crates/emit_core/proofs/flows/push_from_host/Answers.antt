use Rattle.std.proofs.Common.{◌∙◌, ap, Bool, List}
use Rattle.host_net.specs.declared.service.Service.{Service}
use Rattle.host_net.specs.Services.{services_of}
use Rattle.emit_core.specs.Directions.{permits}
use Rattle.emit_core.specs.FlowTable.{host_pair}
use Rattle.emit_core.specs.inner.KeptEntries.{with_entries}
use Rattle.emit_core.proofs.HostSteps.{grow_host}
use Rattle.emit_core.proofs.flows.push_from_host.Goals as goal

pub loop-to-preserved : goal.loop-to-preserved
loop-to-preserved c =
    let policy = c.args.policy.now in
    grow_host (λ j ts. host_pair (permits policy.permitted c.args.from j) (services_of policy.site.services c.args.from j) c.args.rest c.args.sources.now ts) _ _ _ _ _ _
    c.prefixes.ensures c.loop-to.invariant
    (c.in_ok-push_host_pair.ensures
    ∙ ap (λ (b : Bool). with_entries c.loop-to.entries (host_pair b c.of-flow.result.services.now c.args.rest c.args.sources.now c.prefixes.result.now)) c.of-flow.ensures.permitted
    ∙ ap (λ (ss : List Service). with_entries c.loop-to.entries (host_pair (permits policy.permitted c.args.from c.loop-to.to) ss c.args.rest c.args.sources.now c.prefixes.result.now))
    c.of-flow.ensures.services)
