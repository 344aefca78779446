-- Lemmas on sets that are built from listed flows by insertion: their members, that they are sets, and their size.
use Rattle.std.proofs.Common.{◌≡◌, ℕ, ◌+◌, ◌≤◌, true, not, ◌||◌, List, [], ◌∷◌, length, refl, sym, ◌∙◌, ap, arith}
use Rattle.std.proofs.Math.Bool.{or_assoc, or_comm, or-false}
use Rattle.std.proofs.lemmas.Bool.{and_parts, both_ways, false_from_ne_true, not-true, or_from}
use Rattle.std.specs.List.{fold, list_all}
use Rattle.std.specs.Prelude.{IsTrue, IsFalse}
use Rattle.flow_set.specs.declared.flow.Flow.{Flow}
use Rattle.flow_set.specs.Flow.{IsFlow, same_flow}
use Rattle.flow_set.specs.FlowSet.{has, with_flow, set_of}
use Rattle.flow_set.specs.inner.FlowSetView.{IsFlowSet}
use Rattle.flow_set.specs.inner.Different.{AreDifferent}
use Rattle.flow_set.specs.laws.FlowLaws.{same_test, has-with_flow, has_first, has_later}
use Rattle.flow_set.proofs.SubsetLaws.{IsFlowSet-nothing, IsFlowSet-with_flow}
use Rattle.flow_set.specs.laws.WalkLaws.{length-with_flow}

pub has-fold_with_flow : (fs listed : List Flow) (f : Flow) → has (fold with_flow fs listed) f ≡ (has listed f || has fs f)
has-fold_with_flow fs [] f = refl
has-fold_with_flow fs (g ∷ gs) f =
    has-fold_with_flow (with_flow fs g) gs f
    ∙ ap (λ b. has gs f || b) (has-with_flow fs g f)
    ∙ sym (or_assoc (has gs f) (same_flow g f) (has fs f))
    ∙ ap (λ b. b || has fs f) (or_comm (has gs f) (same_flow g f))

pub IsFlowSet-fold_with_flow : (n : ℕ) (fs listed : List Flow) → IsFlowSet n fs → ((f : Flow) → IsTrue (has listed f) → IsFlow n f)
    → IsFlowSet n (fold with_flow fs listed)
IsFlowSet-fold_with_flow n fs [] set each = set
IsFlowSet-fold_with_flow n fs (g ∷ gs) set each =
    IsFlowSet-fold_with_flow n (with_flow fs g) gs (IsFlowSet-with_flow n fs g set (each g (has_first g gs)))
    (λ f there. each f (has_later g gs f there))

-- If no flow is listed twice or already present, the size of the set increases by the length of the list.
pub length-fold_with_flow : (fs listed : List Flow) → ((f : Flow) → IsTrue (has listed f) → IsFalse (has fs f)) → AreDifferent listed
    → length (fold with_flow fs listed) ≡ length fs + length listed
length-fold_with_flow fs [] apart different = omega arith
length-fold_with_flow fs (g ∷ gs) apart different =
    let later = length-fold_with_flow (with_flow fs g) gs
    (λ f there. has-with_flow fs g f ∙ or_from _ _ (false_from_ne_true _ (λ same. both_ways _ different.0 (same_test (has gs) g f same ∙ there))) (apart f (has_later g gs f there)))
    different.1 in
    omega (arith, later, length-with_flow fs g (apart g (has_first g gs)))

-- ---- the set of the listed flows

-- It contains exactly these flows.
pub has-set_of : (listed : List Flow) (f : Flow) → has (set_of listed) f ≡ has listed f
unfolding set_of
has-set_of listed f = has-fold_with_flow [] listed f ∙ or-false (has listed f)

-- Inserting flows between n hosts results in a set of flows between n hosts.
pub IsFlowSet-set_of : (n : ℕ) (listed : List Flow) → n ≤ 256 → ((f : Flow) → IsTrue (has listed f) → IsFlow n f)
    → IsFlowSet n (set_of listed)
unfolding set_of
IsFlowSet-set_of n listed small each = IsFlowSet-fold_with_flow n [] listed (IsFlowSet-nothing n small) each

-- Its size is the length of the list if the list has no duplicates.
pub length-set_of : (listed : List Flow) → AreDifferent listed → length (set_of listed) ≡ length listed
unfolding set_of
length-set_of listed different = omega (arith, length-fold_with_flow [] listed (λ f _. refl) different)

-- ---- distinct flows, by a test

-- A flow that differs from all of these is not among them.
pub absent_from : (f : Flow) (fs : List Flow) → list_all (λ g. not (same_flow g f)) fs ≡ true → IsFalse (has fs f)
absent_from f [] none = refl
absent_from f (g ∷ gs) none =
    let (here, later) = and_parts (not (same_flow g f)) _ none in
    or_from (same_flow g f) (has gs f) (not-true (same_flow g f) here) (absent_from f gs later)
