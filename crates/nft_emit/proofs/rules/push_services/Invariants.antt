use Rattle.std.proofs.Common.{◌≡◌, ◌++◌, Some, drop, map}
use Rattle.host_net.specs.declared.service.Service.{Service}
use Rattle.host_net.specs.Service.{service_matches}
use Rattle.nft_emit.specs.inner.Links.{accept}
use Rattle.nft_emit.proofs.rules.push_services.Given as goal

abbrev pub invariant-loop-service : goal.invariant-loop-service
invariant-loop-service l =
    l.rules.items ++ map (accept l.established l.end) (map (λ (t : Service). Some t) (drop l.service-index l.services))
    ≡ l.fn.rules.items ++ map (accept l.established l.end) (service_matches l.services)
