-- The number of failing invariants, counted in order.
use Rattle.std.proofs.Common.{◌≡◌, ◌∙◌, ◌≤◌, ◌+◌, ℕ, suc, true, false, List, [], ◌∷◌, drop, drop-cons, length, refl, sym, ap, subst, add-one, add-zero, arith}
use Rattle.std.proofs.lemmas.Bool.{true≢false}
use Rattle.std.proofs.lemmas.List.{drop_all}
use Rattle.net_core.specs.FailingFlows.{AreFailing}
use Rattle.flow_set.specs.declared.flow.Flow.{Flow}
use Rattle.inv_any.specs.declared.any_inv.AnyInv.{AnyInv}
use Rattle.net_core.specs.Policies.{holds_on}
use Rattle.net_core.proofs.FailingLemmas.{IsAt}

none_failing : (flows : List Flow) → AreFailing [] flows 0
none_failing flows = record { marks = []; each = tt; counted = refl }

-- One more invariant, which holds or fails.
one_holds : (inv : AnyInv) (rest : List AnyInv) (flows : List Flow) (n : ℕ) → holds_on inv flows → AreFailing rest flows n → AreFailing (inv ∷ rest) flows n
one_holds inv rest flows n holds others = record { marks = false ∷ others.marks; each = ((λ _. holds, λ _. refl), others.each); counted = others.counted }

one_fails : (inv : AnyInv) (rest : List AnyInv) (flows : List Flow) (n : ℕ) → (holds_on inv flows → ⊥) → AreFailing rest flows n
    → AreFailing (inv ∷ rest) flows (suc n)
one_fails inv rest flows n fails others = record {
  marks = true ∷ others.marks;
  each = ((λ none. absurd (true≢false none), λ holds. absurd (fails holds)), others.each);
  counted = ap suc others.counted;
}

-- The count before an index: together with the rest it is the count of all.
abbrev pub CountTo : List AnyInv → List Flow → ℕ → ℕ → Type 0
CountTo invs flows i count = (n : ℕ) → AreFailing (drop i invs) flows n → AreFailing invs flows (count + n)

left_at : (invs : List AnyInv) (i : ℕ) (inv : AnyInv) → IsAt invs i inv → inv ∷ drop (i + 1) invs ≡ drop i invs
left_at invs i inv there = rw (add-one i) (sym (drop-cons invs i inv there.within ∙ ap (λ x. x ∷ drop (suc i) invs) (sym there.is)))

pub count_holds : (invs : List AnyInv) (flows : List Flow) (i count : ℕ) (inv : AnyInv) → IsAt invs i inv → holds_on inv flows
    → CountTo invs flows i count → CountTo invs flows (i + 1) count
count_holds invs flows i count inv there holds so_far n rest =
    so_far n (subst (λ (xs : List AnyInv). AreFailing xs flows n) (left_at invs i inv there) (one_holds inv (drop (i + 1) invs) flows n holds rest))

pub count_fails : (invs : List AnyInv) (flows : List Flow) (i count : ℕ) (inv : AnyInv) → IsAt invs i inv → (holds_on inv flows → ⊥)
    → CountTo invs flows i count → CountTo invs flows (i + 1) (count + 1)
count_fails invs flows i count inv there fails so_far n rest =
    let same : count + suc n ≡ (count + 1) + n = omega arith in
    subst (AreFailing invs flows) same
    (so_far (suc n) (subst (λ (xs : List AnyInv). AreFailing xs flows (suc n)) (left_at invs i inv there) (one_fails inv (drop (i + 1) invs) flows n fails rest)))

pub count_all : (invs : List AnyInv) (flows : List Flow) (i count : ℕ) → length invs ≤ i → CountTo invs flows i count → AreFailing invs flows count
count_all invs flows i count past so_far =
    subst (AreFailing invs flows) (add-zero count)
    (so_far 0 (subst (λ (xs : List AnyInv). AreFailing xs flows 0) (sym (drop_all i invs past)) (none_failing flows)))
