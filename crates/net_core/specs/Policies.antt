-- The policy of a network: the flows that its invariants permit, and the permitted flows whose answers may pass. Both
-- are after C. Diekmann, Provably Secure Networks: Methodology and Toolset for Configuration Management. The choice of
-- the first sets in the order of flows, by which a network has one policy (PolicyLaws: policy_is_one), is topoS's own;
-- the key `answers` is of the description's format, docs/FORMATS.md.
use Rattle.std.specs.Prelude.{◌≡◌, Bool, if◌then◌else◌, List, [], IsTrue, All}
use Rattle.net_core.specs.Network.{Network}
use Rattle.flow_set.specs.Conditions.{IsFirst, IsGreatest}
use Rattle.flow_set.specs.FlowSet.{SetOfFlows, with_back}
use Rattle.flow_set.specs.declared.flow.Flow.{Flow}
use Rattle.inv_any.specs.Templates.{meaning_of}
use Rattle.inv_any.specs.declared.any_inv.AnyInv.{AnyInv}
use Rattle.inv_law.specs.declared.strategy.Strategy.{Strategy}
use Rattle.permit_core.specs.Policy.{AllHold}
use Rattle.state_core.specs.Stateful.{StrictHold, CompliesWithEach}

-- The invariant holds on the flows.
abbrev pub holds_on : AnyInv → List Flow → Type 0
holds_on inv = (meaning_of inv).holds_on

-- The strategy of an invariant, which determines the offending host of a flow.
abbrev pub strategy_of : AnyInv → Strategy
strategy_of inv = (meaning_of inv).strategy

-- The invariant is edge-wise.
abbrev pub edge_mark : AnyInv → Bool
edge_mark inv = (meaning_of inv).edge_mark

-- Every invariant of the network holds on the flows.
abbrev pub MeetsAll : Network → List Flow → Type 0
MeetsAll d flows = AllHold holds_on d.invariants flows

-- Every strict invariant of the network holds on the flows.
abbrev pub MeetsStrict : Network → List Flow → Type 0
MeetsStrict d flows = StrictHold strategy_of edge_mark holds_on d.invariants flows

-- Every invariant of the network is edge-wise.
abbrev pub IsEdgeWiseNetwork : Network → Type 0
IsEdgeWiseNetwork d = All (λ inv. IsTrue (edge_mark inv)) d.invariants

-- p is the set of permitted flows: the first subset of the requested flows on which every invariant holds.
abbrev pub IsPermitted : Network → List Flow → Type 0
IsPermitted d p = IsFirst (MeetsAll d) d.asked.flows p

-- The flows that may have answers: all of them, or none.
abbrev pub answerable : Bool → List Flow → List Flow
answerable answers p = if answers then p else []

-- s is the set of stateful flows: the first subset of p, or of the empty set if the network has no answers, such that every strict
-- invariant holds on p with their answers.
abbrev pub IsStateful : Network → List Flow → List Flow → Type 0
IsStateful d p s = IsFirst (λ answered. MeetsStrict d (with_back p answered)) (answerable d.answers p) s

-- A policy: the permitted flows, and the stateful flows.
pub record Policy : Type 0 where
  pub permitted : SetOfFlows
  pub stateful : SetOfFlows

-- The policy is that of the network.
pub record IsPolicyOf (d : Network) (policy : Policy) : Type 0 where
  pub permitted_size : policy.permitted.size ≡ d.asked.size
  pub stateful_size : policy.stateful.size ≡ d.asked.size
  pub permitted : IsPermitted d policy.permitted.flows
  pub stateful : IsStateful d policy.permitted.flows policy.stateful.flows

-- The stateful flows are permitted, and with their answers the policy complies with every invariant of the network.
abbrev pub CompliesWithAll : Network → Policy → Type 0
CompliesWithAll d policy = CompliesWithEach strategy_of holds_on d.invariants policy.permitted.flows policy.stateful.flows

-- The permitted flows contain every other subset of the requested flows on which every invariant holds.
abbrev pub IsGreatestPolicy : Network → Policy → Type 0
IsGreatestPolicy d policy = IsGreatest (MeetsAll d) d.asked.flows policy.permitted.flows
