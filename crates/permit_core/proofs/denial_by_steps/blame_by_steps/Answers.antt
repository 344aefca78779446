use Rattle.std.proofs.Common.{◌≡◌, refl, length, sym, subst}
use Rattle.std.proofs.lemmas.Bool.{both_ways}
use Rattle.std.proofs.lemmas.List.{take_all}
use Rattle.std.proofs.lemmas.Option.{slice_get_read}
use Rattle.std.proofs.lemmas.List.Elements.{All-more}
use Rattle.flow_set.specs.FlowSet.{with_flow}
use Rattle.permit_core.specs.Policy.{AllHold}
use Rattle.permit_core.proofs.PolicyLaws.{denied_fails}
use Rattle.permit_core.proofs.TrialLaws.{AreTried-asked, flows_read}
use Rattle.permit_core.proofs.denial_by_steps.blame_by_steps.Goals as goal

pub returns-then-not-holds_with-clause-least : goal.returns-then-not-holds_with-clause-least
returns-then-not-holds_with-clause-least g c =
    let number = c.loop-number.number in
    let inv = c.index-invs-number.result in
    let t = c.index_mut.result.now in
    let flows : (g.I.Tried.Trial.tried t).flows ≡ c.args._permitted.now.flows =
    flows_read g.I.Stepwise.fits g.I.Tried.Trial.tried c.args.invs.now c.loop-number.trials.items c.args._permitted.now.flows number inv t
    c.loop-number.invariant.tried c.loop-number-test.true c.index_mut.ensures.value in
    record {
      inv = inv;
      place = slice_get_read c.args.invs.now (length c.args.invs.now) number inv refl c.loop-number-test.true c.index-invs-number.is;
      fails = λ holds. both_ways _ c.if-not-holds_with.true (c.holds_with.ensures.answer.1 (subst (λ fs. g.I.Invariant.holds_on inv (with_flow fs c.args.f)) (sym flows) holds));
      earlier = c.loop-number.invariant.hold;
    }

pub loop-number-preserved : goal.loop-number-preserved
loop-number-preserved g c =
    let number = c.loop-number.number in
    let inv = c.index-invs-number.result in
    let t = c.index_mut.result.now in
    let flows : (g.I.Tried.Trial.tried t).flows ≡ c.args._permitted.now.flows =
    flows_read g.I.Stepwise.fits g.I.Tried.Trial.tried c.args.invs.now c.loop-number.trials.items c.args._permitted.now.flows number inv t
    c.loop-number.invariant.tried c.loop-number-test.true c.index_mut.ensures.value in
    record {
      tried =
          AreTried-asked g.I.Stepwise.fits g.I.Tried.Trial.tried
          c.args.invs.now c.loop-number.trials.items c.args._permitted.now.flows number inv t c.holds_with.new.tried
          c.loop-number.invariant.tried c.loop-number-test.true c.index-invs-number.is c.index_mut.ensures.value c.holds_with.ensures.fits c.holds_with.ensures.again;
      hold =
          All-more (λ x. g.I.Invariant.holds_on x (with_flow c.args._permitted.now.flows c.args.f)) c.args.invs.now number inv c.loop-number-test.true c.loop-number.invariant.hold
          (subst (λ x. g.I.Invariant.holds_on x (with_flow c.args._permitted.now.flows c.args.f)) c.index-invs-number.is
          (subst (λ fs. g.I.Invariant.holds_on inv (with_flow fs c.args.f)) flows (c.holds_with.ensures.answer.0 c.if-not-holds_with.false)));
    }

pub returns-clause-least : goal.returns-clause-least
returns-clause-least g c =
    subst (λ invs. AllHold g.I.Invariant.holds_on invs (with_flow c.args._permitted.now.flows c.args.f))
    (take_all c.loop-number.number c.args.invs.now c.loop-number-test.false) c.loop-number.invariant.hold

pub returns-clause-denied : goal.returns-clause-denied
returns-clause-denied g c denied =
    absurd (denied_fails (AllHold g.I.Invariant.holds_on c.args.invs.now) c.args._permitted.now.flows c.args.f denied
    (subst (λ invs. AllHold g.I.Invariant.holds_on invs (with_flow c.args._permitted.now.flows c.args.f)) (take_all c.loop-number.number c.args.invs.now c.loop-number-test.false) c.loop-number.invariant.hold))
