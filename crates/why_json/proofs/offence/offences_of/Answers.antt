use Rattle.std.proofs.Common.{◌≡◌, ◌<◌, ◌≤◌, ℕ, ◌+◌, List, Some, length, refl, sym, ◌∙◌, ap, subst, arith}
use Rattle.std.specs.Prelude.{slice_get}
use Rattle.std.specs.List.{range_with_len}
use Rattle.std.proofs.lemmas.Option.{slice_get_read}
use Rattle.flow_set.specs.FlowSet.{SetOfFlows}
use Rattle.flow_set.specs.inner.FlowSetView.{IsFlowSet}
use Rattle.inv_any.specs.declared.any_inv.AnyInv.{AnyInv}
use Rattle.net_core.specs.Policies.{holds_on}
use Rattle.report_core.proofs.ReportLaws.{offence_found}
use Rattle.why_json.specs.declared.offence.Offence.{Offence}
use Rattle.why_json.proofs.OffenceLaws.{AreFound, found_none, found_next, offending_fit}
use Rattle.why_json.proofs.offence.offences_of.Goals as goal

pub loop-place-init : goal.loop-place-init
loop-place-init c = subst (AreFound c.args.description.now 0) (sym c.new-offences.ensures.items) (found_none c.args.description.now)

pub loop-place-preserved : goal.loop-place-preserved
loop-place-preserved c =
    let d = c.args.description.now in
    let invs = c.invariants-invariants.result.now in
    let place = c.loop-place.place in
    let inv = c.index-invariants-place.result in
    let flows = c.in_ok-flows.flows in
    let asked = c.asked-asked.ensures.value in
    let offence : Offence = record { number = place; flows = flows } in
    let there : slice_get d.invariants place ≡ Some inv =
    ap (λ (xs : List AnyInv). slice_get xs place) (sym c.invariants-invariants.ensures.value) ∙ slice_get_read invs (length invs) place inv refl c.loop-place-test.true c.index-invariants-place.is in
    let asked_set : IsFlowSet (length d.hosts) c.asked-asked.result.now.flows =
    subst (λ (s : SetOfFlows). IsFlowSet (length d.hosts) s.flows) (sym asked) (subst (λ n. IsFlowSet n d.asked.flows) c.asked-asked.ensures.size c.asked-asked.ensures.set) in
    subst (AreFound d (place + 1)) (sym c.in_ok-push.ensures.items)
    (found_next d place c.loop-place.offences.items offence c.loop-place.invariant refl
    (record { inv = inv; place = there; found = offence_found (holds_on inv) d.asked c.asked-asked.result.now flows asked c.in_ok-flows.ensures.none c.in_ok-flows.ensures.rest })
    (record {
      number = subst (λ (xs : List AnyInv). place < length xs) c.invariants-invariants.ensures.value c.loop-place-test.true;
      flows = offending_fit (length d.hosts) (holds_on inv) c.asked-asked.result.now.flows flows asked_set c.in_ok-flows.ensures.minimal;
    }))

pub returns-clause-offences : goal.returns-clause-offences
returns-clause-offences c =
    let d = c.args.description.now in
    let invs = c.invariants-invariants.result.now in
    let place = c.loop-place.place in
    let all : place ≡ length d.invariants = ends place (length invs) c.loop-place.auto.place-end c.loop-place-test.false ∙ ap (λ (xs : List AnyInv). length xs) c.invariants-invariants.ensures.value in
    record { numbers = c.loop-place.invariant.numbers ∙ ap (range_with_len 0) all; each = c.loop-place.invariant.each }
  where
    ends : (place count : ℕ) → place ≤ count → count ≤ place → place ≡ count
    ends place count below past = omega (arith, below, past)

pub returns-clause-fit : goal.returns-clause-fit
returns-clause-fit c = c.loop-place.invariant.fit
