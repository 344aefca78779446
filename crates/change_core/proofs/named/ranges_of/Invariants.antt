use Rattle.std.proofs.Common.{◌-◌, ◌≤◌, ◌^◌}
use Rattle.change_core.proofs.NamingLaws.{AreUpTo}
use Rattle.change_core.proofs.named.ranges_of.Given as goal

abbrev pub invariant-loop-ranges : goal.invariant-loop-ranges
invariant-loop-ranges l = record {
  small : l.first ≤ 4294967295;
  upto : AreUpTo l.new l.old l.owner l.ranges.items l.first;
}

abbrev pub decreases-loop-ranges : goal.decreases-loop-ranges
decreases-loop-ranges l = 2 ^ 32 - l.first
