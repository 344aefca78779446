-- The interfering hosts of a set. No clause of a public call mentions them.
use Rattle.std.specs.Prelude.{ℕ, ◌≢◌, ◌<◌, ◌≤◌, List, IsTrue}
use Rattle.std.specs.FinSet as set
use Rattle.flow_set.specs.declared.flow.Flow.{Flow}
use Rattle.flow_set.specs.HostSet.{HostNumbers}
use Rattle.reach_core.specs.Walks.{Joined}
use Rattle.tmpl_reach.specs.NonInterference.{IsInterfering}
use Rattle.tmpl_reach.specs.declared.non_interference.Interference.{Interference}

-- Host i is joined with no other interfering host.
abbrev pub IsApart : List Interference → List Flow → ℕ → Type 0
IsApart hosts e i = (j : ℕ) → i ≢ j → IsInterfering hosts j → Joined e i j → ⊥

-- At most one of the hosts is interfering.
abbrev pub HasOneAtMost : List Interference → HostNumbers → Type 0
HasOneAtMost kinds hosts =
    (i j : ℕ) → i ≢ j → IsTrue (set.contains hosts i) → IsTrue (set.contains hosts j) → IsInterfering kinds i → IsInterfering kinds j → ⊥

-- None of the hosts from `from` on and below `end` is interfering.
abbrev pub NoneInterferes : List Interference → HostNumbers → ℕ → ℕ → Type 0
NoneInterferes kinds hosts from end =
    (i : ℕ) → from ≤ i → i < end → IsTrue (set.contains hosts i) → IsInterfering kinds i → ⊥

-- `next` is the first interfering host of the set from `from` on.
pub record IsNextInterfering (kinds : List Interference) (hosts : HostNumbers) (from next : ℕ) : Type 0 where
  pub late : from ≤ next
  pub below : next < 256
  pub among : IsTrue (set.contains hosts next)
  pub interferes : IsInterfering kinds next
  pub none_before : NoneInterferes kinds hosts from next

-- An interfering host that is not joined with this sender is joined with no other interfering host.
abbrev pub StaysIsolated : List Interference → List Flow → ℕ → ℕ → Type 0
StaysIsolated kinds e from host = (Joined e from host → ⊥) → IsInterfering kinds host → IsApart kinds e host
