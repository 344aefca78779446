-- The exact number of other hosts that a host reaches.
use Rattle.std.specs.Prelude.{◌≡◌, ℕ, List, length}
use Rattle.flow_set.specs.declared.flow.Flow.{Flow}
use Rattle.reach_core.specs.Walks.{AreReached, ReachesAtMost}

-- Host i reaches exactly `count` other hosts.
pub record ReachesExactly (e : List Flow) (i count : ℕ) : Type 0 where
  pub hosts : List ℕ
  pub reached : AreReached e i hosts
  pub counted : length hosts ≡ count
  pub most : ReachesAtMost e i count
