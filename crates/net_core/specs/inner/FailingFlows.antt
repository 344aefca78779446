-- The flows on which each invariant fails, if the invariants are edge-wise.
use Rattle.std.specs.Prelude.{◌≡◌, ◌↔◌, ℕ, ◌<◌, List, [], ◌∷◌, length, slice_index_or, IsTrue, IsFalse}
use Rattle.flow_set.specs.FlowSet.{SetOfFlows, has, IsSubset}
use Rattle.flow_set.specs.declared.flow.Flow.{Flow}
use Rattle.inv_any.specs.declared.any_inv.AnyInv.{AnyInv}
use Rattle.net_core.specs.Network.{Network}
use Rattle.net_core.specs.Policies.{holds_on}

-- `failing` contains exactly the flows of `all` on which the invariant fails.
pub record FailsOn (inv : AnyInv) (all failing : List Flow) : Type 0 where
  pub within : IsSubset failing all
  pub marked : (f : Flow) → IsTrue (has all f) → IsFalse (has failing f) ↔ holds_on inv (f ∷ [])

-- The same for a set of flows between n hosts.
pub record FailsIn (n : ℕ) (all : List Flow) (inv : AnyInv) (failing : SetOfFlows) : Type 0 where
  pub size : failing.size ≡ n
  pub flows : FailsOn inv all failing.flows

-- A set for each invariant: the requested flows on which it fails.
pub record AreFailingFlows (d : Network) (failing : List SetOfFlows) : Type 0 where
  pub counted : length failing ≡ length d.invariants
  pub each : (k : ℕ) (inv : AnyInv) (set : SetOfFlows) → k < length d.invariants
      → FailsIn d.asked.size d.asked.flows (slice_index_or d.invariants k inv) (slice_index_or failing k set)
