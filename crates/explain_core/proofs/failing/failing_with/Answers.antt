use Rattle.std.proofs.Common.{◌≡◌, ℕ, Vec, Global, ◌+◌, refl, length, [], ◌∷◌, ◌++◌, sym, ◌∙◌, ap, subst, arith}
use Rattle.std.proofs.lemmas.Option.{slice_get_read}
use Rattle.flow_set.specs.FlowSet.{with_flow}
use Rattle.permit_core.proofs.TrialLaws.{flows_read}
use Rattle.explain_core.proofs.NumberLaws.{AreFound, found_one, found_other, found_all}
use Rattle.explain_core.proofs.TrialLaws.{AreTried-kept}
use Rattle.explain_core.proofs.failing.failing_with.Goals.{then-fails_with+in_ok-push, else-fails_with}
use Rattle.explain_core.proofs.failing.failing_with.Goals as goal

pub loop-number-preserved : goal.loop-number-preserved
loop-number-preserved g c =
    let number = c.loop-number.number in
    let invs = c.args.invs.now in
    let e = c.args._set.now.flows in
    let inv = c.index-invs-number.result in
    let t = c.index_mut.result.now in
    let chosen = g.C.Choice.chosen c.args.choice.now in
    let HoldsOn = g.I.Invariant.holds_on in
    let with = with_flow e c.args.f in
    let flows : (g.I.Tried.Trial.tried t).flows ≡ e =
    flows_read g.I.Stepwise.fits g.I.Tried.Trial.tried invs c.loop-number.trials.items e number inv t
    c.loop-number.invariant.tried c.loop-number-test.true c.index_mut.ensures.value in
    let place = slice_get_read invs (length invs) number inv refl c.loop-number-test.true c.index-invs-number.is in
    record {
      tried =
          AreTried-kept g.I.Stepwise.fits g.I.Tried.Trial.tried invs c.loop-number.trials.items e number inv c.fails_with.new.trial
          c.loop-number.invariant.tried c.loop-number-test.true c.index-invs-number.is c.fails_with.ensures.fits (c.fails_with.ensures.again ∙ flows);
      found = elim c.if-fails_with.branch [
        | then-fails_with+in_ok-push w ↦
            let pushed : c.if-fails_with.numbers.items ≡ c.loop-number.numbers.items ++ number ∷ [] =
            ap (λ (v : Vec ℕ Global). v.items) w.numbers-is ∙ w.in_ok-push.ensures.items in
            subst (AreFound chosen HoldsOn invs with (number + 1)) (sym pushed)
            (found_one chosen HoldsOn invs with number c.loop-number.numbers.items inv c.loop-number.invariant.found place
            (c.fails_with.ensures.chosen w.if-fails_with.true)
            (subst (λ fs. HoldsOn inv (with_flow fs c.args.f) → ⊥) flows (c.fails_with.ensures.fails w.if-fails_with.true)))
        | else-fails_with w ↦
            subst (AreFound chosen HoldsOn invs with (number + 1)) (sym (ap (λ (v : Vec ℕ Global). v.items) w.numbers-is))
            (found_other chosen HoldsOn invs with number c.loop-number.numbers.items inv c.loop-number.invariant.found place
            (λ counts. subst (λ fs. HoldsOn inv (with_flow fs c.args.f)) flows (c.fails_with.ensures.holds w.if-fails_with.false counts)))
      ];
    }

pub returns-clause-failing : goal.returns-clause-failing
returns-clause-failing g c =
    found_all (g.C.Choice.chosen c.args.choice.now) g.I.Invariant.holds_on c.args.invs.now (with_flow c.args._set.now.flows c.args.f) c.loop-number.number c.loop-number.numbers.items
    c.loop-number.invariant.found (omega (arith, c.loop-number-test.false, c.loop-number.auto.number-end))
