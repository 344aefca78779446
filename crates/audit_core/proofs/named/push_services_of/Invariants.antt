use Rattle.std.proofs.Common.{◌≡◌, ◌++◌}
use Rattle.std.specs.List.{flat_map}
use Rattle.host_net.specs.Services.{services_of}
use Rattle.audit_core.specs.inner.Named.{AreMore}
use Rattle.audit_core.specs.Parts.{service_parts}
use Rattle.audit_core.proofs.named.push_services_of.Given as goal

-- The services of the flows so far are appended.
abbrev pub invariant-loop-flow : goal.invariant-loop-flow
invariant-loop-flow l = record {
  walk : l.yielded ++ l.flow-iterator ≡ l.flows.flows;
  named : AreMore (flat_map service_parts (flat_map (λ f. services_of l.services f.from f.to) l.yielded)) l.fn.found l.found;
}
