-- The explanation of a flow: its standing, and the invariants that deny it or its answers, each with a minimal failing set.
use Rattle.std.specs.Prelude.{◌≡◌, [], All, IsTrue, IsFalse}
use Rattle.flow_set.specs.declared.flow.Flow.{Flow}
use Rattle.flow_set.specs.Flow.{reverse_of}
use Rattle.flow_set.specs.FlowSet.{has}
use Rattle.net_core.specs.Network.{Network}
use Rattle.net_core.specs.Policies.{Policy, holds_on, strategy_of, edge_mark}
use Rattle.explain_core.specs.Reasons.{DenyFlow, DenyAnswers}
use Rattle.why_json.specs.Standings.{standing_of}
use Rattle.why_json.specs.declared.explanation.Explanation.{Explanation}

-- The explanation is of the flow f: it has the standing of f, the reasons that deny f beside the permitted flows, and the reasons
-- that deny the answers of f beside the permitted flows and the answers of the stateful flows.
pub record IsExplanation (d : Network) (policy : Policy) (f : Flow) (x : Explanation) : Type 0 where
  pub standing : x.standing ≡ standing_of d policy f
  pub denied : DenyFlow holds_on d.invariants policy.permitted.flows f x.denied_by.items
  pub answers_denied : DenyAnswers strategy_of edge_mark holds_on d.invariants policy.permitted.flows policy.stateful.flows f x.answers_denied_by.items

-- A flow that is requested and not permitted has a reason. Where flows may have answers, a permitted flow whose answers may not
-- pass has a reason.
pub record HasReasons (d : Network) (x : Explanation) : Type 0 where
  pub denied : IsTrue x.standing.asked → IsFalse x.standing.permitted → x.denied_by.items ≡ [] → ⊥
  pub answers_denied : IsTrue d.answers → IsTrue x.standing.permitted → IsFalse x.standing.answered → x.answers_denied_by.items ≡ [] → ⊥

-- The minimal failing set of each reason has the flow, or its answer.
pub record ReasonsHaveFlow (x : Explanation) : Type 0 where
  pub denied : All (λ reason. IsTrue (has reason.by.flows x.standing.flow)) x.denied_by.items
  pub answers_denied : All (λ reason. IsTrue (has reason.by.flows (reverse_of x.standing.flow))) x.answers_denied_by.items
