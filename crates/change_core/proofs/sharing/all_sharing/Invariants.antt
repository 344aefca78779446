use Rattle.std.proofs.Common.{◌-◌, ◌≤◌, ◌^◌}
use Rattle.change_core.specs.inner.Sharing.{AreMarked}
use Rattle.change_core.proofs.sharing.all_sharing.Given as goal

abbrev pub invariant-loop-older : goal.invariant-loop-older
invariant-loop-older l = record {
  small : l.first ≤ 4294967295;
  marked : AreMarked l.new l.old l.first l.sharing;
}

abbrev pub decreases-loop-older : goal.decreases-loop-older
decreases-loop-older l = 2 ^ 32 - l.first
