-- The answer of `network`: all that the description and the policy of a network say of its hosts, invariants and flows.
use Rattle.std.specs.Prelude.{◌≡◌, ℕ, List, length}
use Rattle.flow_set.specs.EveryFlow.{every_flow}
use Rattle.net_core.specs.Network.{Network}
use Rattle.net_core.specs.Policies.{Policy, holds_on, strategy_of, edge_mark}
use Rattle.explain_core.specs.Findings.{AreAnswerDenials, AreDenials}
use Rattle.explain_core.specs.declared.finding.Finding.{Finding}
use Rattle.why_json.specs.WhyJson.{network_json}
use Rattle.why_json.specs.Offences.{AreOffencesOf}
use Rattle.why_json.specs.declared.offence.Offence.{Offence}

-- The text has all hosts; all invariants, each with its offence on the requested flows; every flow between two hosts, with its standing
-- and all invariants that deny it beside the permitted flows; and every permitted flow whose answers may not pass, with all strict
-- invariants that deny them.
pub record IsNetworkText (d : Network) (policy : Policy) (text : List ℕ) : Type 0 where
  pub offences : List Offence
  pub are_offences : AreOffencesOf d offences
  pub denials : List Finding
  pub are_denials : AreDenials holds_on d.invariants (every_flow (length d.hosts)) policy.permitted.flows denials
  pub answer_denials : List Finding
  pub are_answer_denials : AreAnswerDenials strategy_of edge_mark holds_on d.invariants policy.permitted.flows policy.stateful.flows answer_denials
  pub written : text ≡ network_json d policy offences denials answer_denials
