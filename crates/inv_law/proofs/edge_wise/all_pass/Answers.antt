use Rattle.std.proofs.Common.{refl, subst}
use Rattle.std.proofs.lemmas.Bool.{false≢true}
use Rattle.flow_set.specs.Flow.{IsFlow}
use Rattle.flow_set.specs.laws.WalkLaws.{walk_next, walk_member, walk_end}
use Rattle.inv_law.specs.Rules.{AllFlowsPass}
use Rattle.inv_law.specs.laws.RuleLaws.{AllFlowsPass-push}
use Rattle.inv_law.proofs.edge_wise.all_pass.Goals as goal

pub passes-requires : goal.passes-requires
passes-requires g c =
    let f = c.in-Some.f in
    let in_e = walk_member c.loop-f.yielded _ _ c.args.e.now.flows f c.loop-f.invariant.walk c.in-Some.ensures.steps in
    subst (λ n. IsFlow n f) c.requires (c.iter-f-items.ensures.set.flows f in_e)

pub returns-then-not-passes : goal.returns-then-not-passes
returns-then-not-passes g c =
    let f = c.in-Some.f in
    let in_e = walk_member c.loop-f.yielded _ _ c.args.e.now.flows f c.loop-f.invariant.walk c.in-Some.ensures.steps in
    (λ impossible. absurd (false≢true impossible), λ all. c.if-not-passes.ensures.1 (all f in_e))

pub loop-f-preserved : goal.loop-f-preserved
loop-f-preserved g c = record {
  passed = AllFlowsPass-push (g.R.EdgeRule.passes_from c.args.rule.now) c.loop-f.yielded c.in-Some.f c.loop-f.invariant.passed (c.if-not-passes.ensures.0 refl);
  walk = walk_next c.loop-f.yielded _ _ c.args.e.now.flows c.in-Some.f c.loop-f.invariant.walk c.in-Some.ensures.steps;
}

pub returns : goal.returns
returns g c =
    let whole = walk_end c.loop-f.yielded _ c.args.e.now.flows c.loop-f.invariant.walk c.in-None.ensures.steps.0 in
    (λ _. subst (AllFlowsPass (g.R.EdgeRule.passes_from c.args.rule.now)) whole c.loop-f.invariant.passed, λ _. refl)
