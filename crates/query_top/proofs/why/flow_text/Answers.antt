use Rattle.std.proofs.lemmas.Result.{IfOk-weaker}
use Rattle.query_top.proofs.why.flow_text.Goals as goal

pub returns : goal.returns
returns c =
    IfOk-weaker c.why_json.result _ _
    (λ text written. record {
      policy = c.in_ok-policy.policy;
      is_policy = c.in_ok-policy.ensures.policy;
      explanation = c.in_ok-explanation.explanation;
      explained = c.in_ok-explanation.ensures.explained;
      reasons = c.in_ok-explanation.ensures.reasons;
      of_flow = c.in_ok-explanation.ensures.flow;
      written = written;
    })
    c.why_json.ensures
