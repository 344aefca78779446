use Rattle.std.proofs.Common.{◌≡◌, suc, ◌+◌, [], ◌∷◌, ◌++◌, get_or, map, take, sym, ◌∙◌, ap, subst, arith}
use Rattle.std.specs.Prelude.{All, IsTrue, slice_get, Some}
use Rattle.std.proofs.Math.Seq.{take-suc}
use Rattle.std.proofs.lemmas.List.{map_push}
use Rattle.std.proofs.lemmas.List.Elements.{All-push}
use Rattle.std.proofs.lemmas.Option.{slice_get_within, get_or_from_slice_get}
use Rattle.flow_set.specs.FlowSet.{with_flow}
use Rattle.explain_core.specs.Failing.{IsLeastFailing, IsMinimalFailing}
use Rattle.explain_core.specs.declared.reason.Reason.{Reason}
use Rattle.explain_core.proofs.NumberLaws.{among-read}
use Rattle.explain_core.proofs.reasons.reasons_of.Goals as goal

pub offset_bounds-invs-number : goal.offset_bounds-invs-number
offset_bounds-invs-number g c =
    let number = get_or c.args.numbers.now c.loop-number.number-index 0 in
    let failing = c.requires.failing.failing number (among-read c.args.numbers.now c.loop-number.number-index 0 c.loop-number-test.true) in
    omega (arith, slice_get_within c.args.invs.now number failing.inv failing.place)

pub bounds-invs-number : goal.bounds-invs-number
bounds-invs-number g c =
    let number = get_or c.args.numbers.now c.loop-number.number-index 0 in
    let failing = c.requires.failing.failing number (among-read c.args.numbers.now c.loop-number.number-index 0 c.loop-number-test.true) in
    slice_get_within c.args.invs.now number failing.inv failing.place

pub minimal_failing_set-requires-clause-size : goal.minimal_failing_set-requires-clause-size
minimal_failing_set-requires-clause-size g c =
    let number = get_or c.args.numbers.now c.loop-number.number-index 0 in
    let inv = c.index-invs-number.result in
    let failing = c.requires.failing.failing number (among-read c.args.numbers.now c.loop-number.number-index 0 c.loop-number-test.true) in
    let within = slice_get_within c.args.invs.now number failing.inv failing.place in
    sym (subst (λ x. g.I.Invariant.size_of x ≡ c.args.set.now.size) (sym c.index-invs-number.is) (c.requires.sizes number inv within))

pub minimal_failing_set-requires-clause-held : goal.minimal_failing_set-requires-clause-held
minimal_failing_set-requires-clause-held g c =
    let number = get_or c.args.numbers.now c.loop-number.number-index 0 in
    let inv = c.index-invs-number.result in
    let failing = c.requires.failing.failing number (among-read c.args.numbers.now c.loop-number.number-index 0 c.loop-number-test.true) in
    let within = slice_get_within c.args.invs.now number failing.inv failing.place in
    let same = get_or_from_slice_get c.args.invs.now number failing.inv inv failing.place in
    subst (λ x. g.I.Invariant.holds_on x c.args.set.now.flows) (sym c.index-invs-number.is)
    (c.requires.held number inv within (subst (λ x. IsTrue (g.C.Choice.chosen c.args._choice.now x)) (sym same) failing.counts))

pub minimal_failing_set-requires-clause-fails : goal.minimal_failing_set-requires-clause-fails
minimal_failing_set-requires-clause-fails g c =
    let number = get_or c.args.numbers.now c.loop-number.number-index 0 in
    let inv = c.index-invs-number.result in
    let failing = c.requires.failing.failing number (among-read c.args.numbers.now c.loop-number.number-index 0 c.loop-number-test.true) in
    let same = get_or_from_slice_get c.args.invs.now number failing.inv inv failing.place in
    λ holds. failing.fails (subst (λ x. g.I.Invariant.holds_on x (with_flow c.args.set.now.flows c.args.f)) (c.index-invs-number.is ∙ same) holds)

pub loop-number-preserved : goal.loop-number-preserved
loop-number-preserved g c =
    let index = c.loop-number.number-index in
    let number = get_or c.args.numbers.now index 0 in
    let invs = c.args.invs.now in
    let this = c.index-invs-number.result in
    let e = with_flow c.args.set.now.flows c.args.f in
    let reason : Reason = record { number = number; by = c.in_ok-by.by } in
    let Minimal : Reason → Type 0 = λ r. (inv : g.row.I.Denot) → slice_get invs r.number ≡ Some inv → IsMinimalFailing (g.I.Invariant.holds_on inv) e r.by.flows in
    let Least : Reason → Type 0 = λ r. (inv : g.row.I.Denot) → slice_get invs r.number ≡ Some inv → IsLeastFailing (g.I.Invariant.holds_on inv) e r.by.flows in
    let next : index + 1 ≡ suc index = omega arith in
    let pushed : c.push.new.self.items ≡ c.loop-number.reasons.items ++ reason ∷ [] = c.in_ok-push.ensures.items in
    record {
      numbers =
          ap (map (λ (r : Reason). r.number)) pushed
          ∙ map_push (λ (r : Reason). r.number) c.loop-number.reasons.items reason
          ∙ ap (λ ns. ns ++ number ∷ []) c.loop-number.invariant.numbers
          ∙ sym (ap (λ k. take k c.args.numbers.now) next ∙ take-suc c.args.numbers.now index 0 c.loop-number-test.true);
      minimal = subst (All Minimal) (sym pushed)
          (All-push Minimal c.loop-number.reasons.items reason c.loop-number.invariant.minimal
          (λ inv place. subst (λ x. IsMinimalFailing (g.I.Invariant.holds_on x) e c.in_ok-by.by.flows)
          (c.index-invs-number.is ∙ get_or_from_slice_get invs number inv this place) c.in_ok-by.ensures.minimal));
      least = subst (All Least) (sym pushed)
          (All-push Least c.loop-number.reasons.items reason c.loop-number.invariant.least
          (λ inv place. subst (λ x. IsLeastFailing (g.I.Invariant.holds_on x) e c.in_ok-by.by.flows)
          (c.index-invs-number.is ∙ get_or_from_slice_get invs number inv this place) c.in_ok-by.ensures.least));
    }
