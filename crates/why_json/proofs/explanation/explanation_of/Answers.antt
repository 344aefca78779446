use Rattle.std.proofs.Common.{List, subst}
use Rattle.flow_set.specs.declared.flow.Flow.{Flow}
use Rattle.flow_set.specs.FlowSet.{SetOfFlows}
use Rattle.net_core.specs.Policies.{edge_mark, holds_on, strategy_of}
use Rattle.explain_core.specs.Reasons.{DenyAnswers, DenyFlow}
use Rattle.why_json.proofs.explanation.explanation_of.Goals as goal

pub returns : goal.returns
returns c =
    let d = c.args.description.now in
    let f = c.args.flow in
    let p : List Flow = c.args.policy.now.permitted.flows in
    let s : List Flow = c.args.policy.now.stateful.flows in
    let why_denied = c.in_ok-denied_by.denied_by.items in
    let why_answers_denied = c.in_ok-answers_denied_by.answers_denied_by.items in
    record {
      standing = c.standing_of.ensures;
      denied =
          subst (λ invs. DenyFlow holds_on invs p f why_denied) c.invariants-invariants.ensures.value
          (subst (λ (x : SetOfFlows). DenyFlow holds_on c.invariants-invariants.result.now x.flows f why_denied) c.permitted-permitted.ensures.value c.in_ok-denied_by.ensures);
      answers_denied =
          subst (λ invs. DenyAnswers strategy_of edge_mark holds_on invs p s f why_answers_denied) c.invariants-invariants.ensures.value
          (subst (λ (x : SetOfFlows). DenyAnswers strategy_of edge_mark holds_on c.invariants-invariants.result.now x.flows s f why_answers_denied) c.permitted-permitted.ensures.value
          (subst (λ (x : SetOfFlows). DenyAnswers strategy_of edge_mark holds_on c.invariants-invariants.result.now c.permitted-permitted.result.now.flows x.flows f why_answers_denied) c.stateful-stateful.ensures.value c.in_ok-answers_denied_by.ensures));
    }
