use Rattle.std.proofs.Common.{◌≡◌, ℕ, List, [], ◌∷◌, ◌++◌, sym, ◌∙◌, subst}
use Rattle.flow_set.specs.declared.flow.Flow.{Flow}
use Rattle.flow_set.specs.Flow.{IsFlow}
use Rattle.flow_set.specs.FlowSet.{with_flow, without}
use Rattle.flow_set.specs.laws.WalkLaws.{walk_next, walk_member}
use Rattle.explain_core.specs.Failing.{AreFailing}
use Rattle.explain_core.specs.Findings.{AreFindings}
use Rattle.explain_core.specs.inner.Directions.{directed}
use Rattle.explain_core.specs.declared.finding.Finding.{Finding}
use Rattle.explain_core.proofs.FindingLaws.{found_more, without-more}
use Rattle.explain_core.proofs.findings.findings.Goals as goal

pub has-requires : goal.has-requires
has-requires g c =
    subst (λ n. IsFlow n c.in-Some.flow) (c.requires.all_size ∙ sym c.requires.others_size)
    (c.iter-flow-items.ensures.set.flows c.in-Some.flow
    (walk_member c.loop-flow.yielded c.loop-flow.flow-iterator c.next.new.self c.args.all.now.flows c.in-Some.flow c.loop-flow.invariant.walk c.in-Some.ensures.steps))

pub find-requires-clause-flow : goal.find-requires-clause-flow
find-requires-clause-flow g c =
    subst (λ n. IsFlow n c.in-Some.flow) c.requires.all_size
    (c.iter-flow-items.ensures.set.flows c.in-Some.flow
    (walk_member c.loop-flow.yielded c.loop-flow.flow-iterator c.next.new.self c.args.all.now.flows c.in-Some.flow c.loop-flow.invariant.walk c.in-Some.ensures.steps))

pub loop-flow-preserved-in-Continue-branch-2 : goal.loop-flow-preserved-in-Continue-branch-2
loop-flow-preserved-in-Continue-branch-2 g c =
    let f = c.in-Some.flow in
    let finding : Finding = c.in_ok-finding.finding in
    let set = c.args.set.now.flows in
    let Denies : Flow → List ℕ → Type 0 = λ h. AreFailing (g.C.Choice.chosen c.args.choice.now) g.I.Invariant.holds_on c.args.invs.now (with_flow set (directed c.args.direction h)) in
    let wanted : List Flow = without c.loop-flow.yielded c.args.others.now.flows in
    let pushed : c.push.new.self.items ≡ c.loop-flow.found.items ++ finding ∷ [] = c.in_ok-push.ensures.items in
    record {
      walk = walk_next c.loop-flow.yielded c.loop-flow.flow-iterator c.next.new.self c.args.all.now.flows f c.loop-flow.invariant.walk c.in-Some.ensures.steps;
      tried = c.in_ok-finding.ensures.tried;
      found = subst (λ (fs : List Flow). AreFindings Denies fs c.push.new.self.items) (sym (without-more c.loop-flow.yielded c.args.others.now.flows f (sym c.has.ensures ∙ c.if-not-has.true)))
          (subst (AreFindings Denies (wanted ++ f ∷ [])) (sym pushed)
          (found_more Denies wanted c.loop-flow.found.items finding f c.loop-flow.invariant.found c.in_ok-finding.ensures.flow
          (subst (λ h. Denies h finding.by.items) (sym c.in_ok-finding.ensures.flow) c.in_ok-finding.ensures.failing)));
    }
