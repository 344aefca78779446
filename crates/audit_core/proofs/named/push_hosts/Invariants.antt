use Rattle.std.proofs.Common.{map, take}
use Rattle.host_net.specs.Hosts.{all_prefixes}
use Rattle.audit_core.specs.inner.Named.{AreMore}
use Rattle.audit_core.specs.Parts.{Addresses}
use Rattle.audit_core.proofs.named.push_hosts.Given as goal

-- The prefixes of the hosts so far are appended.
abbrev pub invariant-loop-host : goal.invariant-loop-host
invariant-loop-host l = AreMore (map Addresses (all_prefixes (take l.host l.hosts))) l.fn.found l.found
