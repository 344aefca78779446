use Rattle.std.proofs.Common.{◌≡◌, ℕ, ◌-◌, ◌<◌, ◌≤◌, ◌^◌}
use Rattle.std.specs.List.{All}
use Rattle.host_net.specs.Host.{owner_of}
use Rattle.header_space.specs.Owners.{LiesInOne, IsRangeOf}
use Rattle.header_space.proofs.owners.ranges_of.Given as goal

abbrev pub invariant-loop-ranges : goal.invariant-loop-ranges
invariant-loop-ranges l = record {
  owned : All (IsRangeOf l.hosts l.owner) l.ranges.items;
  small : l.first ≤ 4294967295;
  covered : (a : ℕ) → a < l.first → owner_of l.hosts a ≡ l.owner → LiesInOne l.ranges.items a;
}

abbrev pub decreases-loop-ranges : goal.decreases-loop-ranges
decreases-loop-ranges l = 2 ^ 32 - l.first
