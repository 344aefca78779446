-- The report of `policy` (docs/TEXTS.md): the status of each flow between two hosts, and the reason.
use Rattle.std.specs.Prelude.{◌≡◌, ◌⊎◌, ◌↔◌, ℕ, ◌+◌, List, [], ◌++◌, flat_map, length, slice_get, codes, IsTrue, IsFalse}
use Rattle.std.specs.List.{AllZip, zip}
use Rattle.std.specs.Option.{option_map_or}
use Rattle.net_core.specs.Network.{Network}
use Rattle.flow_set.specs.EveryFlow.{every_flow}
use Rattle.flow_set.specs.FlowSet.{has, with_flow}
use Rattle.flow_set.specs.declared.flow.Flow.{Flow}
use Rattle.inv_any.specs.declared.any_inv.AnyInv.{AnyInv}
use Rattle.permit_core.specs.Policy.{IsFirstFailing}
use Rattle.net_core.specs.Policies.{Policy, IsPolicyOf, holds_on}
use Rattle.report_core.specs.Names.{flow_text, invariant_text}

-- The status of a flow: it is permitted and so are its answers; it is permitted but its answers are not; it is not requested; or the
-- invariant with this number, from 0, denies it.
pub data FlowStatus : Type 0 where
  Answered : FlowStatus
  Allowed : FlowStatus
  NotAsked : FlowStatus
  Denied : (number : ℕ) → FlowStatus

-- A flow is reported as allowed if and only if the policy permits it, with answers if and only if they may pass, and as not requested if
-- and only if it is not a requested flow. The invariant that denies a flow is the first that fails on the permitted flows with this one.
pub record IsFlowStatus (d : Network) (policy : Policy) (f : Flow) (flow_status : FlowStatus) : Type 0 where
  pub allowed : ((flow_status ≡ Answered) ⊎ (flow_status ≡ Allowed)) ↔ IsTrue (has policy.permitted.flows f)
  pub answered : (flow_status ≡ Answered) ↔ IsTrue (has policy.stateful.flows f)
  pub not_asked : (flow_status ≡ NotAsked) ↔ IsFalse (has d.asked.flows f)
  pub denied : (number : ℕ) → flow_status ≡ Denied number → IsFirstFailing holds_on d.invariants (with_flow policy.permitted.flows f) number

-- The status in words. Invariants are numbered from 1.
abbrev pub ruling_text : List AnyInv → FlowStatus → List ℕ
ruling_text invs Answered = codes "allowed with answers"
ruling_text invs Allowed = codes "allowed"
ruling_text invs NotAsked = codes "not asked for"
ruling_text invs (Denied number) = codes "denied by " ++ option_map_or (invariant_text (number + 1)) (slice_get invs number) []

-- The line of a flow, with its status.
unfoldable pub ruling_line : Network → Flow → FlowStatus → List ℕ
ruling_line d f r = flow_text d.hosts f ++ (codes " " ++ (ruling_text d.invariants r ++ codes "\n"))

-- A line for each flow.
abbrev pub policy_text : Network → List Flow → List FlowStatus → List ℕ
policy_text d flows rulings = flat_map (λ (told : Flow × FlowStatus). ruling_line d told.0 told.1) (zip flows rulings)

-- The text is the report of the network: it covers every flow between two hosts.
pub record IsPolicyReport (d : Network) (text : List ℕ) : Type 0 where
  pub policy : Policy
  pub is_policy : IsPolicyOf d policy
  pub rulings : List FlowStatus
  pub found : AllZip (IsFlowStatus d policy) (every_flow (length d.hosts)) rulings
  pub written : text ≡ policy_text d (every_flow (length d.hosts)) rulings
