use Rattle.std.proofs.Common.{take}
use Rattle.std.specs.List.{flat_map}
use Rattle.audit_core.specs.inner.Named.{AreMore}
use Rattle.audit_core.specs.Parts.{entry_parts}
use Rattle.audit_core.proofs.named.push_entries.Given as goal

abbrev pub invariant-loop-k : goal.invariant-loop-k
invariant-loop-k l = AreMore (flat_map entry_parts (take l.k l.table)) l.fn.found l.found
