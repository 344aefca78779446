use Rattle.std.proofs.Common.{map, take}
use Rattle.audit_core.specs.inner.Named.{AreMore}
use Rattle.audit_core.specs.Parts.{Addresses}
use Rattle.audit_core.proofs.named.push_prefixes.Given as goal

abbrev pub invariant-loop-prefix : goal.invariant-loop-prefix
invariant-loop-prefix l = AreMore (map Addresses (take l.prefix-index l.prefixes)) l.fn.found l.found
