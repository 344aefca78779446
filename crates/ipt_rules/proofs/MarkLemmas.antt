-- Setting a mark sets this mark and no other.
use Rattle.std.proofs.Common.{◌≡◌, ◌⊎◌, inl, inr, ℕ, zero, suc, ◌<◌, ◌∙◌, sym, ap, refl, Bool, true, false, List, [], ◌∷◌, Option, length, get_or, map, set, arith}
use Rattle.std.specs.Prelude.{slice_get, IsTrue, IfOk, Result, Ok, Err}
use Rattle.std.specs.Option.{unwrap_or, option_map_or}
use Rattle.std.proofs.lemmas.Bool.{cases_eq}
use Rattle.std.proofs.lemmas.List.{length-set, map-set}
use Rattle.ipt_rules.specs.declared.marks.Place.{Place}
use Rattle.ipt_rules.specs.Chain.{Chain}
use Rattle.ipt_rules.specs.Marks.{is_marked, marks_of}
use Rattle.ipt_rules.specs.inner.Marking.{no_marks, with_mark, with_mark_if}
use Rattle.ipt_rules.proofs.Gets.{get_set_same, get_set_other}
use Rattle.ipt_rules.proofs.WalkingLemmas.{none_returns}

abbrev row_in : Option (List Bool) → List Bool
row_in row = option_map_or (λ (x : List Bool). x) row []

abbrev at_in : Option Bool → Bool
at_in mark = unwrap_or mark false

-- ---- no marks

none_at : (chains : List Chain) (c n : ℕ) → unwrap_or (slice_get (marks_of (no_marks chains) c) n) false ≡ false
none_at [] c n = refl
none_at (x ∷ chains) zero n = none_returns (length x.rules) n
none_at (x ∷ chains) (suc c) n = none_at chains c n

pub none_marked : (chains : List Chain) (place : Place) → is_marked (no_marks chains) place ≡ false
none_marked chains place = none_at chains place.chain place.rule

-- ---- one more mark

row_there : (marks : List (List Bool)) (c n : ℕ) → n < length (marks_of marks c) → c < length marks
row_there [] c n low = absurd (omega (arith, low))
row_there (row ∷ marks) zero n low = omega arith
row_there (row ∷ marks) (suc c) n low = let rest = row_there marks c n low in omega (arith, rest)

module _ (marks : List (List Bool)) (place : Place) (low : place.rule < length (marks_of marks place.chain)) where
  pub chain_there : place.chain < length marks
  chain_there = row_there marks place.chain place.rule low

  row_same : marks_of (with_mark marks place) place.chain ≡ set (marks_of marks place.chain) place.rule true
  row_same = ap row_in (get_set_same marks place.chain (set (marks_of marks place.chain) place.rule true) chain_there)

  row_other : (c : ℕ) → (c ≡ place.chain → ⊥) → marks_of (with_mark marks place) c ≡ marks_of marks c
  row_other c other = ap row_in (get_set_other marks place.chain c (set (marks_of marks place.chain) place.rule true) other)

  -- The number of marks is unchanged.
  long_row : (c : ℕ) → length (marks_of (with_mark marks place) c) ≡ length (marks_of marks c)
  long_row c = elim (cases_eq c place.chain) [
    | inl same ↦
        ap (λ (k : ℕ). length (marks_of (with_mark marks place) k)) same ∙ ap length row_same ∙ length-set (marks_of marks place.chain) place.rule true
        ∙ ap (λ (k : ℕ). length (marks_of marks k)) (sym same)
    | inr other ↦ ap length (row_other c other)
  ]

  marked_self : is_marked (with_mark marks place) place ≡ true
  marked_self =
      ap (λ (row : List Bool). at_in (slice_get row place.rule)) row_same ∙ ap at_in (get_set_same (marks_of marks place.chain) place.rule true low)

  same_place : (other : Place) → other.chain ≡ place.chain → other.rule ≡ place.rule → other ≡ place
  same_place other chain rule = λ i. record { chain = chain i; rule = rule i }

  -- In the changed row.
  marked_row : (other : Place) → other.chain ≡ place.chain → (other.rule ≡ place.rule → ⊥) → is_marked (with_mark marks place) other ≡ is_marked marks other
  marked_row other same apart =
      ap (λ (c : ℕ). at_in (slice_get (marks_of (with_mark marks place) c) other.rule)) same ∙ ap (λ (row : List Bool). at_in (slice_get row other.rule)) row_same
      ∙ ap at_in (get_set_other (marks_of marks place.chain) place.rule other.rule true apart) ∙ ap (λ (c : ℕ). at_in (slice_get (marks_of marks c) other.rule)) (sym same)

  marked_by : (other : Place) → (other ≡ place) ⊎ (is_marked (with_mark marks place) other ≡ is_marked marks other)
  marked_by other = elim (cases_eq other.chain place.chain) [
    | inl same ↦ elim (cases_eq other.rule place.rule) [
      | inl equal ↦ inl (same_place other same equal)
      | inr apart ↦ inr (marked_row other same apart)
    ]
    | inr apart ↦ inr (ap (λ (row : List Bool). at_in (slice_get row other.rule)) (row_other other.chain apart))
  ]

  pub mark_kept : (other : Place) → IsTrue (is_marked marks other) → IsTrue (is_marked (with_mark marks place) other)
  mark_kept other on = elim (marked_by other) [
    | inl same ↦ ap (is_marked (with_mark marks place)) same ∙ marked_self
    | inr equal ↦ equal ∙ on
  ]

  pub mark_only : (other : Place) → IsTrue (is_marked (with_mark marks place) other) → IsTrue (is_marked marks other) ⊎ (other ≡ place)
  mark_only other on = elim (marked_by other) [ inl same ↦ inr same | inr equal ↦ inl (sym equal ∙ on) ]

-- ---- a mark if the rule matches

module _ (marks : List (List Bool)) (place : Place) (low : place.rule < length (marks_of marks place.chain)) where
  pub long_if : (b : Bool) (c : ℕ) → length (marks_of (with_mark_if b marks place) c) ≡ length (marks_of marks c)
  long_if false c = refl
  long_if true c = long_row marks place low c

  pub kept_if : (b : Bool) (other : Place) → IsTrue (is_marked marks other) → IsTrue (is_marked (with_mark_if b marks place) other)
  kept_if false other on = on
  kept_if true other on = mark_kept marks place low other on

  pub marked_if : (b : Bool) → b ≡ true → IsTrue (is_marked (with_mark_if b marks place) place)
  marked_if false on = cc
  marked_if true on = marked_self marks place low

  pub only_if : (b : Bool) (other : Place) → IsTrue (is_marked (with_mark_if b marks place) other) → IsTrue (is_marked marks other) ⊎ ((other ≡ place) × (b ≡ true))
  only_if false other on = inl on
  only_if true other on = elim (mark_only marks place low other on) [ inl old ↦ inl old | inr same ↦ inr (same, refl) ]

-- ---- the rows in the form of the code

row_there_of : {A : Type 0} (rows : List A) (f : A → List Bool) (c n : ℕ) → n < length (marks_of (map f rows) c) → c < length rows
row_there_of [] f c n low = absurd (omega (arith, low))
row_there_of (x ∷ rows) f zero n low = omega arith
row_there_of (x ∷ rows) f (suc c) n low = let rest = row_there_of rows f c n low in omega (arith, rest)

row_at : {A : Type 0} (rows : List A) (f : A → List Bool) (c : ℕ) (row : A) → c < length rows → row ≡ get_or rows c row → f row ≡ marks_of (map f rows) c
row_at [] f c row low is = absurd (omega (arith, low))
row_at (x ∷ rows) f zero row low is = ap f is
row_at (x ∷ rows) f (suc c) row low is = row_at rows f c row (omega (arith, low)) is

pub set_row : {A : Type 0} (rows : List A) (f : A → List Bool) (place : Place) (row new : A) → place.rule < length (marks_of (map f rows) place.chain) → row ≡ get_or rows place.chain row → f new ≡ set (f row) place.rule true
    → map f (set rows place.chain new) ≡ with_mark (map f rows) place
set_row rows f place row new low is same =
    map-set f rows place.chain new
    ∙ ap (λ (y : List Bool). set (map f rows) place.chain y) (same ∙ ap (λ (y : List Bool). set y place.rule true) (row_at rows f place.chain row (row_there_of rows f place.chain place.rule low) is))

pub none_if : {E : Type 0} (r : Result (List (List Bool)) E) (chains : List Chain) → IfOk r (λ marks. marks ≡ no_marks chains) → IfOk r (λ marks. (place : Place) → is_marked marks place ≡ false)
none_if (Ok marks) chains is = λ place. ap (λ (m : List (List Bool)). is_marked m place) is ∙ none_marked chains place
none_if (Err e) chains is = is
