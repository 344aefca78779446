use Rattle.std.proofs.Common.{take}
use Rattle.std.specs.List.{flat_map}
use Rattle.ipt_rules.specs.Rules.{all_rules}
use Rattle.audit_core.specs.inner.Named.{AreMore}
use Rattle.audit_core.specs.Parts.{rule_parts}
use Rattle.audit_core.proofs.named.push_rules.Given as goal

abbrev pub invariant-loop-k : goal.invariant-loop-k
invariant-loop-k l = AreMore (flat_map rule_parts (take l.k (all_rules l.rules))) l.fn.found l.found
