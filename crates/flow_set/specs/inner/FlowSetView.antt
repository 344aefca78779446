-- Invariants of every `FlowSet`, and the results of removal and search.
use Rattle.std.specs.Prelude.{ℕ, ◌≤◌, not, List, Option, IsTrue, filter, find}
use Rattle.flow_set.specs.declared.flow.Flow.{Flow}
use Rattle.flow_set.specs.Flow.{IsFlow, before, same_flow}
use Rattle.flow_set.specs.FlowSet.{has, IsOrdered}

-- A set of flows between n hosts, at most 256.
pub record IsFlowSet (n : ℕ) (fs : List Flow) : Type 0 where
  pub small : n ≤ 256
  pub ordered : IsOrdered fs
  pub flows : (f : Flow) → IsTrue (has fs f) → IsFlow n f

-- The set without f.
abbrev pub without_flow : List Flow → Flow → List Flow
without_flow fs f = filter (λ g. not (same_flow f g)) fs

-- The first flow from position p on.
abbrev pub first_from : List Flow → Flow → Option Flow
first_from fs p = find (λ f. not (before f p)) fs
