-- The condition of the no-reach template on one host.
use Rattle.std.specs.Prelude.{◌≢◌, ℕ, List, IsTrue}
use Rattle.std.specs.FinSet as set
use Rattle.flow_set.specs.declared.flow.Flow.{Flow}
use Rattle.flow_set.specs.HostSet.{HostNumbers}
use Rattle.reach_core.specs.Walks.{Reaches}

-- Host i reaches none of these hosts, except possibly itself.
abbrev pub ReachesNone : HostNumbers → List Flow → ℕ → Type 0
ReachesNone hosts e i = (j : ℕ) → i ≢ j → IsTrue (set.contains hosts j) → Reaches e i j → ⊥
