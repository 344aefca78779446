use Rattle.std.proofs.Common.{ℕ, ◌∙◌, subst, sym}
use Rattle.std.specs.Prelude.{IsTrue}
use Rattle.flow_set.specs.Flow.{IsFlow}
use Rattle.flow_set.specs.laws.WalkLaws.{walk_next, walk_member}
use Rattle.emit_core.specs.FlowTableEvents.{is_covered}
use Rattle.emit_core.proofs.SearchSteps.{holds_of_more, holds_before}
use Rattle.emit_core.proofs.answers.first_uncovered.Goals as goal

pub is_covered-requires : goal.is_covered-requires
is_covered-requires c =
    let there = walk_member c.loop-flow.yielded c.loop-flow.flow-iterator c.next.new.self c.args.stateful.now.flows c.in-Some.flow c.loop-flow.invariant.walk c.in-Some.ensures.steps in
    subst (λ (n : ℕ). IsFlow n c.in-Some.flow) c.requires (c.iter-flow-items.ensures.set.flows c.in-Some.flow there)

pub returns-then-not-is_covered-clause-barred : goal.returns-then-not-is_covered-clause-barred
returns-then-not-is_covered-clause-barred c = λ hosts. record {
  stateful = walk_member c.loop-flow.yielded c.loop-flow.flow-iterator c.next.new.self c.args.stateful.now.flows c.in-Some.flow c.loop-flow.invariant.walk c.in-Some.ensures.steps;
  barred = sym c.is_covered.ensures ∙ c.if-not-is_covered.true;
  first = holds_before (λ g. IsTrue (is_covered c.args.services.now c.args.permitted.now.flows g)) c.loop-flow.yielded c.loop-flow.flow-iterator c.next.new.self c.args.stateful.now.flows c.in-Some.flow c.iter-flow-items.ensures.set.ordered c.loop-flow.invariant.walk c.in-Some.ensures.steps c.loop-flow.invariant.covered;
}

pub returns-then-not-is_covered-clause-within : goal.returns-then-not-is_covered-clause-within
returns-then-not-is_covered-clause-within c =
    let there = walk_member c.loop-flow.yielded c.loop-flow.flow-iterator c.next.new.self c.args.stateful.now.flows c.in-Some.flow c.loop-flow.invariant.walk c.in-Some.ensures.steps in
    let is = c.iter-flow-items.ensures.set.flows c.in-Some.flow there in
    (is.0, is.1)

pub loop-flow-preserved : goal.loop-flow-preserved
loop-flow-preserved c = record {
  walk = walk_next c.loop-flow.yielded c.loop-flow.flow-iterator c.next.new.self c.args.stateful.now.flows c.in-Some.flow c.loop-flow.invariant.walk c.in-Some.ensures.steps;
  covered = holds_of_more (λ g. IsTrue (is_covered c.args.services.now c.args.permitted.now.flows g)) c.loop-flow.yielded c.in-Some.flow c.loop-flow.invariant.covered (sym c.is_covered.ensures ∙ c.if-not-is_covered.false);
}
