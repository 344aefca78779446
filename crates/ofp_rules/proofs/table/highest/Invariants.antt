use Rattle.std.proofs.Common.{◌≤◌, ◌-◌, length, take}
use Rattle.std.specs.Option.{option_copied}
use Rattle.ofp_rules.specs.inner.Highest.{IsFound}
use Rattle.ofp_rules.proofs.table.highest.Given as goal

abbrev pub decreases-loop-at : goal.decreases-loop-at
decreases-loop-at l = length l.entries - l.from

abbrev pub invariant-loop-at : goal.invariant-loop-at
invariant-loop-at l = record {
  within : l.from ≤ length l.entries;
  found : IsFound (take l.from l.entries) l.frame (option_copied l.found);
}
