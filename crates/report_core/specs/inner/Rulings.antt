-- Statuses in terms of the tests that find them, and the texts that report them for some flows.
use Rattle.std.specs.Prelude.{◌≡◌, ℕ, List, IsTrue, IsFalse}
use Rattle.std.specs.List.{AllZip}
use Rattle.net_core.specs.Network.{Network}
use Rattle.net_core.specs.Policies.{Policy, holds_on}
use Rattle.flow_set.specs.FlowSet.{has, with_flow}
use Rattle.flow_set.specs.declared.flow.Flow.{Flow}
use Rattle.permit_core.specs.Policy.{IsFirstFailing}
use Rattle.report_core.specs.declared.policy.Rulings.{Rulings}
use Rattle.report_core.specs.PolicyReport.{IsFlowStatus, FlowStatus, Answered, Allowed, NotAsked, Denied, policy_text}

-- The policy that the code borrows.
abbrev pub policy_in : Rulings → Policy
policy_in r = record { permitted = r.permitted.now; stateful = r.stateful.now }

-- The facts about the policy and the requested flows that determine the status.
abbrev pub IsFound : Network → Policy → Flow → FlowStatus → Type 0
IsFound d policy f Answered = IsTrue (has policy.stateful.flows f)
IsFound d policy f Allowed = IsTrue (has policy.permitted.flows f) × IsFalse (has policy.stateful.flows f)
IsFound d policy f NotAsked = IsFalse (has d.asked.flows f)
IsFound d policy f (Denied number) =
    IsTrue (has d.asked.flows f)
    × IsFalse (has policy.permitted.flows f)
    × IsFirstFailing holds_on d.invariants (with_flow policy.permitted.flows f) number

-- The text reports the status of each of these flows.
pub record ReportsStatuses (d : Network) (policy : Policy) (flows : List Flow) (text : List ℕ) : Type 0 where
  pub rulings : List FlowStatus
  pub found : AllZip (IsFlowStatus d policy) flows rulings
  pub written : text ≡ policy_text d flows rulings
