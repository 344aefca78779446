use Rattle.std.proofs.Common.{◌<◌, inl, inr, length, get_or, set, arith, sym, ◌∙◌, ap}
use Rattle.std.proofs.Math.Seq.{map-set_same}
use Rattle.std.proofs.lemmas.Bool.{cases_eq}
use Rattle.std.proofs.lemmas.List.{get_or-set_same, get_or-set_other, get_or_read, length-set}
use Rattle.std.proofs.lemmas.List.Elements.{All-set}
use Rattle.flow_set.specs.FlowSet.{with_flow}
use Rattle.permit_core.proofs.chosen.step_all.Goals as goal

pub loop-i-preserved : goal.loop-i-preserved
loop-i-preserved g c =
    let tried = g.I.Tried.Trial.tried in
    let old = c.args.trials.now.items in
    let now = c.loop-i.trials.items in
    let i = c.loop-i.i in
    let t = c.index_mut.result.now in
    let new = c.step.new.self in
    let kept = c.loop-i.invariant in
    let room : i < length now = omega (arith, c.loop-i-test.true, c.len-i-end.ensures, kept.counted) in
    record {
      counted = length-set now i new ∙ kept.counted;
      invariants = map-set_same (λ u. u.invariant) now i new t (c.step.ensures.invariant ∙ ap (λ u. u.invariant) c.index_mut.ensures.value) ∙ kept.invariants;
      fits = All-set (λ u. g.I.Stepwise.fits u.invariant u.trial) now i new c.step.ensures.fits kept.fits;
      stepped = λ k u below within. elim (cases_eq k i) [
        | inl here ↦
            ap (λ v. (tried v.trial).flows) (ap (λ j. get_or (set now i new) j u) here ∙ get_or-set_same now i new u room)
            ∙ c.step.ensures.flows
            ∙ ap (λ v. with_flow (tried v.trial).flows c.args.f)
            (get_or_read now i t room c.index_mut.ensures.value u ∙ kept.rest i u (omega arith) ∙ ap (λ j. get_or old j u) (sym here))
        | inr other ↦ ap (λ v. (tried v.trial).flows) (get_or-set_other now i k new u other) ∙ kept.stepped k u (omega (arith, below, other)) within
      ];
      rest = λ k u above. get_or-set_other now i k new u (omega (arith, above)) ∙ kept.rest k u (omega (arith, above));
    }
