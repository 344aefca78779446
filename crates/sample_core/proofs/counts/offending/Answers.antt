use Rattle.std.proofs.Common.{◌≡◌, ℕ, suc, ◌+◌, ◌++◌, ◌∷◌, [], List, drop, add-one, drop-cons, sym, ap, subst, ◌∙◌}
use Rattle.std.specs.Prelude.{option_map}
use Rattle.std.proofs.lemmas.List.{drop_all}
use Rattle.flow_set.specs.FlowSet.{SetOfFlows}
use Rattle.inv_any.specs.declared.any_inv.AnyInv.{AnyInv}
use Rattle.net_core.specs.Policies.{holds_on}
use Rattle.report_core.proofs.ReportLaws.{offence_found}
use Rattle.sample_core.proofs.OffenceLemmas.{goes_end, goes_next}
use Rattle.sample_core.proofs.counts.offending.Goals as goal

pub loop-invariant-preserved : goal.loop-invariant-preserved
loop-invariant-preserved c =
    let d = c.args.description.now in
    let invs = c.invariants-invariant-items.result.now in
    let i = c.loop-invariant.invariant-index in
    let inv = c.invariant-item.result in
    let found = c.in_ok-offence.offence in
    let counts = c.loop-invariant.counts.items in
    let left : drop i invs ≡ inv ∷ drop (i + 1) invs =
    rw (add-one i) (drop-cons invs i inv c.loop-invariant-test.true ∙ ap (λ x. x ∷ drop (suc i) invs) (sym c.invariant-item.is)) in
    let here : drop i d.invariants ≡ inv ∷ drop (i + 1) d.invariants =
    subst (λ (xs : List AnyInv). drop i xs ≡ inv ∷ drop (i + 1) xs) c.invariants-invariant-items.ensures.value left in
    goes_next d counts c.push.new.self.items (drop i d.invariants) inv (drop (i + 1) d.invariants)
    (option_map (λ (set : SetOfFlows). set.flows) found) here
    c.loop-invariant.invariant
    (offence_found (holds_on inv) d.asked c.asked-asked.result.now found c.asked-asked.ensures.value
    c.in_ok-offence.ensures.none c.in_ok-offence.ensures.rest)
    (c.in_ok-push.ensures.items ∙ ap (λ (n : ℕ). counts ++ n ∷ []) c.size_of.ensures)

pub returns : goal.returns
returns c =
    let invs = c.invariants-invariant-items.result.now in
    let i = c.loop-invariant.invariant-index in
    let none : drop i c.args.description.now.invariants ≡ [] =
    subst (λ (xs : List AnyInv). drop i xs ≡ []) c.invariants-invariant-items.ensures.value (drop_all i invs c.loop-invariant-test.false) in
    goes_end c.args.description.now c.loop-invariant.counts.items (drop i c.args.description.now.invariants) none c.loop-invariant.invariant
