-- Laws of ascending numbers, and of the numbers of failing invariants, invariant by invariant.
use Rattle.std.proofs.Common.{◌≡◌, ℕ, zero, suc, get_or, ◌<◌, ◌+◌, ◌||◌, ◌==◌, Bool, false, inl, inr, List, [], ◌∷◌, ◌++◌, length, refl, sym, ◌∙◌, ap, subst, arith}
use Rattle.std.specs.Prelude.{IsTrue, IsFalse, ◌⊎◌, slice_get, Some}
use Rattle.std.proofs.Math.Bool.{or_assoc}
use Rattle.std.proofs.lemmas.Bool.{both_ways, eqb-true, false≢true, or_cases, or_left, or_right, or_parts, cases_eq}
use Rattle.std.proofs.lemmas.Bool.Decides.{nat_tests}
use Rattle.std.proofs.lemmas.Option.{slice_get_within}
use Rattle.flow_set.specs.declared.flow.Flow.{Flow}
use Rattle.explain_core.specs.Failing.{AreFailing, FailsAt, IsAscending, among}

same_number : (n : ℕ) → IsTrue (n == n)
same_number n = grind (arith, nat_tests)

pub among-append : (ns ms : List ℕ) (k : ℕ) → among (ns ++ ms) k ≡ (among ns k || among ms k)
among-append [] ms k = refl
among-append (n ∷ ns) ms k = ap (λ b. (n == k) || b) (among-append ns ms k) ∙ sym (or_assoc (n == k) (among ns k) (among ms k))

-- A number in a list with one more number is this number, or is in the list.
pub among-last : (ns : List ℕ) (m k : ℕ) → IsTrue (among (ns ++ m ∷ []) k) → (m ≡ k) ⊎ IsTrue (among ns k)
among-last ns m k there =
    elim (or_cases (among ns k) (among (m ∷ []) k) (sym (among-append ns (m ∷ []) k) ∙ there)) [
      | inl earlier ↦ inr earlier
      | inr last ↦ elim (or_cases (m == k) false last) [
        | inl same ↦ inl (eqb-true m k same)
        | inr impossible ↦ absurd (false≢true impossible)
      ]
    ]

pub IsAscending-push : (ns : List ℕ) (m : ℕ) → IsAscending ns → ((k : ℕ) → IsTrue (among ns k) → k < m) → IsAscending (ns ++ m ∷ [])
IsAscending-push [] m ascending below = (λ k there. absurd (false≢true there), tt)
IsAscending-push (n ∷ ns) m ascending below = (
  λ k there. elim (among-last ns m k there) [
    | inl last ↦ subst (λ j. n < j) last (below n (or_left _ _ (same_number n)))
    | inr earlier ↦ ascending.0 k earlier
  ],
  IsAscending-push ns m ascending.1 (λ k there. below k (or_right _ _ there)),
)

-- The numbers are those of the chosen invariants before the index `end` that fail.
pub record AreFound {X : Type 0} (chosen : X → Bool) (HoldsOn : X → List Flow → Type 0) (invs : List X) (e : List Flow) (end : ℕ) (numbers : List ℕ) : Type 0 where
  pub ascending : IsAscending numbers
  pub below : (k : ℕ) → IsTrue (among numbers k) → k < end
  pub failing : (k : ℕ) → IsTrue (among numbers k) → FailsAt chosen HoldsOn invs e k
  pub others : (k : ℕ) (inv : X) → k < end → slice_get invs k ≡ Some inv → IsTrue (chosen inv) → IsFalse (among numbers k) → HoldsOn inv e

pub found_none : {X : Type 0} (chosen : X → Bool) (HoldsOn : X → List Flow → Type 0) (invs : List X) (e : List Flow) → AreFound chosen HoldsOn invs e 0 []
found_none chosen HoldsOn invs e = record {
  ascending = tt;
  below = λ k there. absurd (false≢true there);
  failing = λ k there. absurd (false≢true there);
  others = λ k inv early. absurd (omega (arith, early));
}

-- The next invariant is chosen and fails.
pub found_one : {X : Type 0} (chosen : X → Bool) (HoldsOn : X → List Flow → Type 0) (invs : List X) (e : List Flow) (end : ℕ) (numbers : List ℕ) (inv : X)
    → AreFound chosen HoldsOn invs e end numbers → slice_get invs end ≡ Some inv → IsTrue (chosen inv) → (HoldsOn inv e → ⊥)
    → AreFound chosen HoldsOn invs e (end + 1) (numbers ++ end ∷ [])
found_one chosen HoldsOn invs e end numbers inv found place counts fails = record {
  ascending = IsAscending-push numbers end found.ascending found.below;
  below = λ k there. elim (among-last numbers end k there) [
    | inl last ↦ omega (arith, last)
    | inr earlier ↦ omega (arith, found.below k earlier)
  ];
  failing = λ k there. elim (among-last numbers end k there) [
    | inl last ↦ subst (FailsAt chosen HoldsOn invs e) last (record { inv = inv; place = place; counts = counts; fails = fails })
    | inr earlier ↦ found.failing k earlier
  ];
  others = λ k other early there is_chosen absent.
      let parts = or_parts (among numbers k) (among (end ∷ []) k) (sym (among-append numbers (end ∷ []) k) ∙ absent) in
      let differs = (or_parts (end == k) false parts.1).0 in
      elim (cases_eq end k) [
        | inl same ↦ absurd (both_ways _ differs (subst (λ j. IsTrue (end == j)) same (same_number end)))
        | inr different ↦ found.others k other (omega (arith, early, different)) there is_chosen parts.0
      ];
}

-- The next invariant is not chosen, or holds.
pub found_other : {X : Type 0} (chosen : X → Bool) (HoldsOn : X → List Flow → Type 0) (invs : List X) (e : List Flow) (end : ℕ) (numbers : List ℕ) (inv : X)
    → AreFound chosen HoldsOn invs e end numbers → slice_get invs end ≡ Some inv → (IsTrue (chosen inv) → HoldsOn inv e)
    → AreFound chosen HoldsOn invs e (end + 1) numbers
found_other chosen HoldsOn invs e end numbers inv found place holds = record {
  ascending = found.ascending;
  below = λ k there. omega (arith, found.below k there);
  failing = found.failing;
  others = λ k other early there is_chosen absent. elim (cases_eq end k) [
    | inl same ↦
        let this : Some inv ≡ Some other = sym place ∙ ap (slice_get invs) same ∙ there in
        let is : inv ≡ other = cc in
        subst (λ x. HoldsOn x e) is (holds (subst (λ x. IsTrue (chosen x)) (sym is) is_chosen))
    | inr different ↦ found.others k other (omega (arith, early, different)) there is_chosen absent
  ];
}

pub found_all : {X : Type 0} (chosen : X → Bool) (HoldsOn : X → List Flow → Type 0) (invs : List X) (e : List Flow) (end : ℕ) (numbers : List ℕ)
    → AreFound chosen HoldsOn invs e end numbers → length invs ≡ end → AreFailing chosen HoldsOn invs e numbers
found_all chosen HoldsOn invs e end numbers found all = record {
  ascending = found.ascending;
  failing = found.failing;
  others = λ k inv there. found.others k inv (omega (arith, slice_get_within invs k inv there, all)) there;
}

-- The number at an index is in the list.
pub among-read : (ns : List ℕ) (i d : ℕ) → i < length ns → IsTrue (among ns (get_or ns i d))
among-read [] i d below = absurd (omega (arith, below))
among-read (n ∷ ns) zero d below = or_left _ _ (same_number n)
among-read (n ∷ ns) (suc i) d below = or_right _ _ (among-read ns i d (omega (arith, below)))
