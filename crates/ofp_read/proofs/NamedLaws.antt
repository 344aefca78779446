-- A value that is found in a table of names has every property that all rows of the table have.
use Rattle.std.proofs.Common.{◌≡◌, ℕ, inl, inr, List, [], ◌∷◌, Some, sym, subst}
use Rattle.std.specs.Prelude.{bytes_eq}
use Rattle.std.specs.Map.{lookup}
use Rattle.text_core.proofs.StepsLaws.{if_parts, bytes_same}

pub some_same : {A : Type 0} (x y : A) → Some x ≡ Some y → x ≡ y
some_same x y h = cc

abbrev pub OfEachRow : {A : Type 0} → (List ℕ → A → Type 0) → List (List ℕ × A) → Type 0
OfEachRow Is [] = Unit {0}
OfEachRow Is (row ∷ rows) = Is row.0 row.1 × OfEachRow Is rows

pub named_is : {A : Type 0} (Is : List ℕ → A → Type 0) (name : List ℕ) (rows : List (List ℕ × A)) (x : A)
    → lookup (bytes_eq name) rows ≡ Some x → OfEachRow Is rows → Is name x
named_is Is name [] x h each = cc
named_is {A} Is name (row ∷ rows) x h each = elim (if_parts (bytes_eq name row.0) (Some row.1) (lookup (bytes_eq name) rows) (Some x) h) [
  | inl is ↦ subst (λ (y : A). Is name y) (some_same row.1 x is.1)
      (subst (λ (n : List ℕ). Is n row.1) (sym (bytes_same name row.0 is.0)) each.0)
  | inr other ↦ named_is Is name rows x other.1 each.1
]
