-- A set of labels as a number: the meaning of a mask for each label.
use Rattle.std.proofs.Common.{◌≡◌, ℕ, ◌-◌, ◌^◌, ◌<◌, min, bit_and, inl, inr, sym, ◌∙◌, ap, arith}
use Rattle.std.proofs.lemmas.Bool.{cases_eq, cases_lt}
use Rattle.std.proofs.lemmas.Nat.Bits.{bit_at_and, bit_at_not, bit_at_above, bit_at-lt, same_from_bits}
use Rattle.std.specs.Int.{bit_at, bit_not, w64}
use Rattle.tmpl_levels.specs.Tainting.{HasLabel}

-- The labels of a without those that b removes.
abbrev pub kept_of : ℕ → ℕ → ℕ
kept_of a b = bit_and a (bit_not w64 b)

one_kept : (a b c : ℕ) → a ≡ 1 → (b ≡ 1 → ⊥) → b < 2 → c < 2 → min (min a (1 - b)) c ≡ min a (1 - b) → c ≡ 1
one_kept a b c has keeps small_b small_c same = elim (cases_eq b 1) [
  | inl is_one ↦ absurd (keeps is_one)
  | inr other ↦ omega arith
]

none_lost : (a b c : ℕ) → a < 2 → b < 2 → c < 2 → (a ≡ 1 → (b ≡ 1 → ⊥) → c ≡ 1) → min (min a (1 - b)) c ≡ min a (1 - b)
none_lost a b c small_a small_b small_c passes = elim (cases_eq a 1) [
  | inr none ↦ omega arith
  | inl has ↦ elim (cases_eq b 1) [
    | inl taken ↦ omega arith
    | inr keeps ↦ let kept : c ≡ 1 = passes has keeps in omega arith
  ]
]

bit_at-kept_of : (a b i : ℕ) → b < 2 ^ 64 → i < 64 → bit_at (kept_of a b) i ≡ min (bit_at a i) (1 - bit_at b i)
bit_at-kept_of a b i fits within = bit_at_and a (bit_not w64 b) i ∙ ap (min (bit_at a i)) (bit_at_not w64 b i fits within)

pub passes_from_mask : (a b c : ℕ) → a < 2 ^ 64 → b < 2 ^ 64 → bit_and (kept_of a b) c ≡ kept_of a b → (label : ℕ)
    → HasLabel a label → (HasLabel b label → ⊥) → HasLabel c label
passes_from_mask a b c fits_a fits_b same label has keeps = elim (cases_lt label 64) [
  | inl within ↦
      let kept = bit_at-kept_of a b label fits_b within in
      let masked = sym (bit_at_and (kept_of a b) c label) ∙ ap (λ n. bit_at n label) same in
      one_kept _ _ _ has keeps (bit_at-lt b label) (bit_at-lt c label) (ap (λ n. min n (bit_at c label)) (sym kept) ∙ masked ∙ kept)
  | inr above ↦ let none = bit_at_above a 64 label fits_a above in absurd (cc)
]

pub mask_from_passes : (a b c : ℕ) → a < 2 ^ 64 → b < 2 ^ 64
    → ((label : ℕ) → HasLabel a label → (HasLabel b label → ⊥) → HasLabel c label) → bit_and (kept_of a b) c ≡ kept_of a b
mask_from_passes a b c fits_a fits_b passes = same_from_bits _ _ (λ i. bit_at_and (kept_of a b) c i ∙ elim (cases_lt i 64) [
  | inl within ↦
      let kept = bit_at-kept_of a b i fits_b within in
      ap (λ n. min n (bit_at c i)) kept ∙ none_lost _ _ _ (bit_at-lt a i) (bit_at-lt b i) (bit_at-lt c i) (passes i) ∙ sym kept
  | inr above ↦
      let none : bit_at (kept_of a b) i ≡ 0 =
      bit_at_and a (bit_not w64 b) i ∙ ap (λ n. min n (bit_at (bit_not w64 b) i)) (bit_at_above a 64 i fits_a above) ∙ omega arith in
      ap (λ n. min n (bit_at c i)) none ∙ omega arith ∙ sym none
])
