-- The no-reach template: hosts that a host must not reach, on any path. Based on the theory SINVAR_ACLnotCommunicateWith in the entry
-- Network_Security_Policy_Verification of the Archive of Formal Proofs.
use Rattle.std.specs.Prelude.{◌≢◌, ℕ, not, ◌==◌, List, slice_index_or, IsTrue, codes}
use Rattle.std.specs.FinSet as set
use Rattle.flow_set.specs.declared.flow.Flow.{Flow}
use Rattle.flow_set.specs.HostSet.{HostNumbers, hosts_below}
use Rattle.inv_law.specs.Template.{Template, walk_template}
use Rattle.inv_law.specs.declared.strategy.Strategy.TheVariants.{Access}
use Rattle.reach_core.specs.Walks.{Reaches}

-- All hosts below n except this one: the default of a host without an entry.
abbrev pub others : ℕ → ℕ → HostNumbers
others n host = hosts_below n (λ other. not (other == host))

-- The denied hosts are among n hosts, and differ from the host.
abbrev pub AreOthers : ℕ → ℕ → HostNumbers → Type 0
AreOthers n host denied = (j : ℕ) → IsTrue (set.contains denied j) → IsTrue (set.contains (others n host) j)

-- The hosts that a host denies.
abbrev pub denied_by : List HostNumbers → ℕ → HostNumbers
denied_by denied i = slice_index_or denied i set.empty

-- No host reaches another host that it denies.
abbrev pub ReachesNoDenied : List HostNumbers → List Flow → Type 0
ReachesNoDenied denied e = (i j : ℕ) → i ≢ j → IsTrue (set.contains (denied_by denied i) j) → Reaches e i j → ⊥

-- The template `noreach`.
abbrev pub no_reach : Template
no_reach = walk_template (codes "noreach") Access AreOthers others ReachesNoDenied
