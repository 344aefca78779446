-- `why FILE FROM TO`: why the flow is permitted, denied or without answers.
use Rattle.std.specs.Prelude.{◌≡◌, ◌≢◌, ℕ, List, [], ◌∷◌, ◌++◌, None, Some, codes}
use Rattle.flow_set.specs.declared.flow.Flow.{Flow}
use Rattle.host_net.specs.Host.{Host, host_named}
use Rattle.net_core.specs.Network.{Network}
use Rattle.net_core.specs.Policies.{IsPolicyOf, Policy}
use Rattle.why_json.specs.Explanations.{HasReasons, IsExplanation, ReasonsHaveFlow}
use Rattle.why_json.specs.WhyJson.{why_json}
use Rattle.why_json.specs.declared.explanation.Explanation.{Explanation}
use Rattle.run_core.specs.Outcomes.{Outcomes, says_why}
use Rattle.run_core.specs.Reply.{no_host_line, not_emittable}
use Rattle.run_core.specs.declared.status.Status.TheVariants.{NotEmittable, Done}

-- The line for two names of one host.
abbrev pub no_flow_line : (host : List ℕ) → List ℕ
no_flow_line host = not_emittable (codes "no flow from " ++ (host ++ codes " to itself\n"))

-- Why there is no flow between hosts of these names, and the line for it: no host has the first name or the second, or one host has
-- both.
pub data IsNoFlow (hosts : List Host) (from to line : List ℕ) : Type 0 where
  NoSender : host_named hosts from ≡ None → line ≡ no_host_line from → IsNoFlow hosts from to line
  NoReceiver : (h : ℕ) → host_named hosts from ≡ Some h → host_named hosts to ≡ None → line ≡ no_host_line to → IsNoFlow hosts from to line
  SameHost : (h : ℕ) → host_named hosts from ≡ Some h → host_named hosts to ≡ Some h → line ≡ no_flow_line from → IsNoFlow hosts from to line

-- The flow is from the host of the first name to the host of the second, which is another host.
pub record IsFlowNamed (hosts : List Host) (from to : List ℕ) (f : Flow) : Type 0 where
  pub sender : host_named hosts from ≡ Some f.from
  pub receiver : host_named hosts to ≡ Some f.to
  pub differ : f.from ≢ f.to

-- The text is the JSON of an explanation of the flow by the policy of the network. No denial lacks a reason, and each reason has the flow or
-- its answer.
pub record IsWhyOf (d : Network) (f : Flow) (text : List ℕ) : Type 0 where
  pub policy : Policy
  pub is_policy : IsPolicyOf d policy
  pub explanation : Explanation
  pub explained : IsExplanation d policy f explanation
  pub reasons : HasReasons d explanation
  pub of_flow : ReasonsHaveFlow explanation
  pub written : text ≡ why_json d explanation

-- The text answers for the flow between the hosts of these names.
pub record IsWhy (d : Network) (from to text : List ℕ) : Type 0 where
  pub flow : Flow
  pub named : IsFlowNamed d.hosts from to flow
  pub answer : IsWhyOf d flow text

-- The line that there is no flow, or the answer for the flow.
abbrev pub why_outcomes : Network → (from to : List ℕ) → Outcomes
why_outcomes d from to =
    says_why NotEmittable (Unit {0}) (IsNoFlow d.hosts from to)
    ∷ (record { status = Done; when = (f : Flow) × IsFlowNamed d.hosts from to f; is = IsWhy d from to; guarantees = IsWhy d from to }
    ∷ [])
