use Rattle.std.proofs.Common.{◌≡◌, ◌++◌, Some, drop, map}
use Rattle.host_net.specs.declared.service.Service.{Service}
use Rattle.host_net.specs.Service.{service_matches}
use Rattle.emit_core.specs.inner.Link.{accepting}
use Rattle.emit_core.proofs.host_chain.link.push_accepted.Given as goal

abbrev pub invariant-loop-service : goal.invariant-loop-service
invariant-loop-service l =
    l.rules.items ++ map (accepting l.accepted l.side l.at) (map (λ (t : Service). Some t) (drop l.service-index l.services))
    ≡ l.fn.rules.items ++ map (accepting l.accepted l.side l.at) (service_matches l.services)
