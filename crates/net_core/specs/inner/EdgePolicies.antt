-- The policy of a network in which every invariant is edge-wise: each flow is decided individually.
use Rattle.std.specs.Prelude.{◌≡◌, ◌↔◌, List, [], ◌∷◌, IsTrue}
use Rattle.flow_set.specs.Flow.{reverse_of}
use Rattle.flow_set.specs.FlowSet.{has, IsSubset}
use Rattle.flow_set.specs.declared.flow.Flow.{Flow}
use Rattle.net_core.specs.Network.{Network}
use Rattle.net_core.specs.Policies.{answerable, MeetsAll, MeetsStrict, Policy}

-- xs contains exactly the flows of `all` that pass.
abbrev pub AreMarked : (Flow → Type 0) → (all xs : List Flow) → Type 0
AreMarked Passes all xs = (f : Flow) → IsTrue (has all f) → IsTrue (has xs f) ↔ Passes f

-- The single flow satisfies every invariant.
abbrev pub IsAdmitted : Network → Flow → Type 0
IsAdmitted d f = MeetsAll d (f ∷ [])

-- The single answer of the flow satisfies every strict invariant.
abbrev pub IsAnswered : Network → Flow → Type 0
IsAnswered d f = MeetsStrict d (reverse_of f ∷ [])

-- The permitted flows are the requested flows that are admitted, and the stateful flows are those of them whose answers are
-- admitted.
pub record IsEdgePolicy (d : Network) (policy : Policy) : Type 0 where
  pub permitted_size : policy.permitted.size ≡ d.asked.size
  pub stateful_size : policy.stateful.size ≡ d.asked.size
  pub permitted_within : IsSubset policy.permitted.flows d.asked.flows
  pub stateful_within : IsSubset policy.stateful.flows (answerable d.answers policy.permitted.flows)
  pub permitted : AreMarked (IsAdmitted d) d.asked.flows policy.permitted.flows
  pub stateful : AreMarked (IsAnswered d) (answerable d.answers policy.permitted.flows) policy.stateful.flows
