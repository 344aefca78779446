-- Invariants that are tested in order on a flow.
use Rattle.std.proofs.Common.{◌≡◌, ◌<◌, ◌≤◌, ◌+◌, ℕ, Bool, true, false, List, length, get_or, take, refl, sym, subst, All}
use Rattle.std.specs.Prelude.{◌↔◌, IsTrue, IsFalse}
use Rattle.std.proofs.lemmas.Bool.{both_ways, false≢true}
use Rattle.std.proofs.lemmas.List.{take_all}
use Rattle.std.proofs.lemmas.List.Elements.{All-more}
use Rattle.inv_any.specs.declared.any_inv.AnyInv.{AnyInv}

-- An invariant that rejects it.
pub refused_at : (P : AnyInv → Type 0) (whole items : List AnyInv) (i : ℕ) (inv : AnyInv) (answer : Bool) → items ≡ whole → i < length items
    → inv ≡ get_or items i inv → IsFalse answer → IsTrue answer ↔ P inv → IsTrue false ↔ All P whole
refused_at P whole items i inv answer same within is says told =
    (λ impossible. absurd (false≢true impossible), λ all. absurd (both_ways _ says (told.1 (subst P (sym is) (subst (All P) (sym same) all i inv within)))))

-- One more invariant that admits it.
pub admitted_next : (P : AnyInv → Type 0) (whole items : List AnyInv) (i : ℕ) (inv : AnyInv) (answer : Bool) → items ≡ whole → i < length items
    → inv ≡ get_or items i inv → IsTrue answer → IsTrue answer ↔ P inv → All P (take i whole) → All P (take (i + 1) whole)
admitted_next P whole items i inv answer same within is says told so_far =
    subst (λ (invs : List AnyInv). All P (take (i + 1) invs)) same
    (All-more P items i inv within (subst (λ (invs : List AnyInv). All P (take i invs)) (sym same) so_far) (subst P is (told.0 says)))

-- All of them admit it.
pub admitted_all : (P : AnyInv → Type 0) (whole items : List AnyInv) (i : ℕ) → items ≡ whole → length items ≤ i → All P (take i whole) → IsTrue true ↔ All P whole
admitted_all P whole items i same past so_far =
    (λ _. subst (All P) same (subst (All P) (take_all i items past) (subst (λ (invs : List AnyInv). All P (take i invs)) (sym same) so_far)), λ _. refl)

-- An invariant that is tested only if it is strict.
pub asked_where_strict : (strict answer : Bool) (Holds : Type 0) → IsTrue strict → IsTrue answer ↔ Holds → IsTrue answer ↔ (IsTrue strict → Holds)
asked_where_strict strict answer Holds is told = (λ says _. told.0 says, λ holds. told.1 (holds is))

pub not_asked : (strict : Bool) (Holds : Type 0) → IsFalse strict → IsTrue true ↔ (IsTrue strict → Holds)
not_asked strict Holds is_not = (λ _ is. absurd (both_ways _ is_not is), λ _. refl)
