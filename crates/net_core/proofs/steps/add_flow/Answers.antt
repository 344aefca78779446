use Rattle.std.proofs.Common.{sym, subst}
use Rattle.std.proofs.lemmas.Bool.{both_ways}
use Rattle.flow_set.specs.Flow.{IsFlow}
use Rattle.flow_set.specs.FlowSet.{SetOfFlows, with_flow}
use Rattle.net_core.specs.inner.Asking.{asking_for}
use Rattle.net_core.specs.Policies.{IsPolicyOf}
use Rattle.net_core.proofs.EdgePolicyLaws.{policy_answered, policy_unanswered}
use Rattle.net_core.proofs.UnpermittedLaws.{policy_denied}
use Rattle.net_core.proofs.steps.add_flow.Goals as goal

pub insert-requires : goal.insert-requires
insert-requires c = subst (λ n. IsFlow n c.args.flow) (sym c.requires.policy.permitted_size) c.requires.flow

pub insert-requires-2 : goal.insert-requires-2
insert-requires-2 c = subst (λ n. IsFlow n c.args.flow) (sym c.requires.policy.stateful_size) c.requires.flow

pub returns-then-not-is_admitted : goal.returns-then-not-is_admitted
returns-then-not-is_admitted c =
    policy_denied c.args.description.now (record { permitted = c.args.permitted.now; stateful = c.args.stateful.now }) c.args.flow c.requires.network
    c.requires.flow (λ admitted. both_ways _ c.if-not-is_admitted.true (c.is_admitted.ensures.1 admitted)) c.requires.policy

pub returns-then-not-has_answers : goal.returns-then-not-has_answers
returns-then-not-has_answers c =
    subst (λ (p : SetOfFlows). IsPolicyOf (asking_for c.args.description.now c.args.flow) (record { permitted = p; stateful = c.args.stateful.now })) (sym c.insert.ensures.set)
    (policy_unanswered c.args.description.now (record { permitted = c.args.permitted.now; stateful = c.args.stateful.now }) c.args.flow c.requires.network
    c.requires.alone c.requires.flow c.requires.fresh (c.is_admitted.ensures.0 c.if-not-is_admitted.false)
    (λ on answered. both_ways _ c.if-not-has_answers.true (c.has_answers.ensures.1 (on, answered))) c.requires.policy)

pub returns : goal.returns
returns c =
    let both = c.has_answers.ensures.0 c.if-not-has_answers.false in
    subst (λ (s : SetOfFlows). IsPolicyOf (asking_for c.args.description.now c.args.flow) (record { permitted = c.insert.new.self; stateful = s })) (sym c.insert-2.ensures.set)
    (subst (λ (p : SetOfFlows). IsPolicyOf (asking_for c.args.description.now c.args.flow) (record { permitted = p; stateful = record c.args.stateful.now { flows = with_flow c.args.stateful.now.flows c.args.flow } })) (sym c.insert.ensures.set)
    (policy_answered c.args.description.now (record { permitted = c.args.permitted.now; stateful = c.args.stateful.now }) c.args.flow c.requires.network
    c.requires.alone c.requires.flow c.requires.fresh (c.is_admitted.ensures.0 c.if-not-is_admitted.false) both.0 both.1 c.requires.policy))
