-- The first bit that is set from an index on, and the first host of a set from a number on.
use Rattle.std.proofs.Common.{◌≡◌, ℕ, ◌+◌, ◌-◌, ◌/◌, ◌%◌, ◌^◌, ◌<◌, ◌≤◌, nat_lt, inl, inr, sym, ◌∙◌, ap, subst, arith}
use Rattle.std.specs.Prelude.{IsFalse}
use Rattle.std.specs.FinSet as set
use Rattle.std.specs.Int.{bit_at, trailing_zeros, w128}
use Rattle.std.proofs.lemmas.Bool.{cond-true, cond-false, cases_lt, eq-eqb, ne_eqb, lt-ltb, le-ltb}
use Rattle.std.proofs.lemmas.Nat.{pow-add}
use Rattle.std.proofs.lemmas.Nat.Bits.{bit_at-zero, bit_at-trailing_zeros, bit_at_above}
use Rattle.std.proofs.Math.Nat.{div-div-eq-div-mul}
use Rattle.flow_set.specs.HostSet.{HostNumbers}
use Rattle.flow_set.specs.inner.Calls.{HasNone, IsFirstFrom}
use Rattle.flow_set.specs.inner.HostBits.{is_set, IsFirstBit}
use Rattle.flow_set.proofs.Apart.{HasBits}
use Rattle.flow_set.proofs.HostSets.{contains-marked}

-- ---- the bits from an index on

bit_further : (bits from i : ℕ) → bit_at (bits / 2 ^ from) i ≡ bit_at bits (from + i)
bit_further bits from i =
    ap (λ n. n % 2) (div-div-eq-div-mul bits (2 ^ from) (2 ^ i) ∙ ap (λ p. bits / p) (sym (pow-add 2 from i)))

bit_late : (bits from k : ℕ) → from ≤ k → bit_at bits k ≡ bit_at (bits / 2 ^ from) (k - from)
bit_late bits from k late = ap (bit_at bits) (omega (arith, late)) ∙ sym (bit_further bits from (k - from))

unset : (bits k : ℕ) → bit_at bits k ≡ 0 → IsFalse (is_set bits k)
unset bits k none = ne_eqb _ _ (omega (arith, none))

pub none_from : (bits from : ℕ) → bits / 2 ^ from ≡ 0 → HasNone (is_set bits) from 128
none_from bits from none k late below =
    unset bits k (bit_late bits from k late ∙ ap (λ n. bit_at n (k - from)) none ∙ bit_at-zero (k - from))

pub first_from_place : (bits from : ℕ) → bits < 2 ^ 128 → bits / 2 ^ from < 2 ^ 128 → 0 < bits / 2 ^ from
    → IsFirstBit bits from (from + trailing_zeros w128 (bits / 2 ^ from))
first_from_place bits from small fits some =
    let left : ℕ = bits / 2 ^ from in
    let lowest = bit_at-trailing_zeros w128 left some fits in
    let shown : bit_at bits (from + trailing_zeros w128 left) ≡ 1 = sym (bit_further bits from (trailing_zeros w128 left)) ∙ lowest.1 in
    record {
      late = omega arith;
      below = below shown;
      set = eq-eqb _ _ shown;
      none_before = λ k late before. unset bits k (bit_late bits from k late ∙ lowest.2 (k - from) (omega (arith, late, before)));
    }
  where
    below : bit_at bits (from + trailing_zeros w128 (bits / 2 ^ from)) ≡ 1 → from + trailing_zeros w128 (bits / 2 ^ from) < 128
    below shown =
        elim (cases_lt (from + trailing_zeros w128 (bits / 2 ^ from)) 128) [
          | inl within ↦ within
          | inr beyond ↦ absurd (omega (arith, shown, bit_at_above bits 128 (from + trailing_zeros w128 (bits / 2 ^ from)) small beyond))
        ]

-- ---- the hosts from a number on

host_low : (low high : ℕ) (s : HostNumbers) (q : ℕ) → HasBits low high s → q < 128 → set.contains s q ≡ is_set low q
host_low low high s q bits below =
    ap (λ (x : HostNumbers). set.contains x q) (sym bits.made) ∙ contains-marked low high q (omega (arith, below))
    ∙ cond-true (nat_lt q 128) _ _ (lt-ltb q 128 below)

host_high : (low high : ℕ) (s : HostNumbers) (q : ℕ) → HasBits low high s → q < 128 → set.contains s (128 + q) ≡ is_set high q
host_high low high s q bits below =
    let place : 128 + q - 128 ≡ q = omega arith in
    ap (λ (x : HostNumbers). set.contains x (128 + q)) (sym bits.made) ∙ contains-marked low high (128 + q) (omega (arith, below))
    ∙ cond-false (nat_lt (128 + q) 128) _ _ (le-ltb (128 + q) 128 (omega arith)) ∙ ap (is_set high) place

-- A host from 128 on, by its index in the upper half.
upper : (P : ℕ → Type 0) (k : ℕ) → 128 ≤ k → P (128 + (k - 128)) → P k
upper P k from holds = subst P (omega (arith, from)) holds

pub none_upper : (low high : ℕ) (s : HostNumbers) (from : ℕ) → HasBits low high s → HasNone (is_set high) from 128
    → HasNone (set.contains s) (128 + from) 256
none_upper low high s from bits none k late below =
    upper (λ h. IsFalse (set.contains s h)) k (omega (arith, late))
    (host_high low high s (k - 128) bits (omega (arith, below)) ∙ none (k - 128) (omega (arith, late)) (omega (arith, below)))

pub first_upper_place : (low high : ℕ) (s : HostNumbers) (from place : ℕ) → HasBits low high s → IsFirstBit high from place
    → IsFirstFrom (set.contains s) (128 + from) (128 + place)
first_upper_place low high s from place bits first = record {
  late = omega (arith, first.late);
  below = omega (arith, first.below);
  passes = host_high low high s place bits first.below ∙ first.set;
  none_before = λ k late before. upper (λ h. IsFalse (set.contains s h)) k (omega (arith, late))
      (host_high low high s (k - 128) bits (omega (arith, before, first.below)) ∙ first.none_before (k - 128) (omega (arith, late)) (omega (arith, late, before)));
}

pub first_lower_place : (low high : ℕ) (s : HostNumbers) (from place : ℕ) → HasBits low high s → IsFirstBit low from place
    → IsFirstFrom (set.contains s) from place
first_lower_place low high s from place bits first = record {
  late = first.late;
  below = omega (arith, first.below);
  passes = host_low low high s place bits first.below ∙ first.set;
  none_before = λ k late before. host_low low high s k bits (omega (arith, before, first.below)) ∙ first.none_before k late before;
}

-- No host below 128, and the search from there on.
none_lower : (low high : ℕ) (s : HostNumbers) (from end : ℕ) → HasBits low high s → HasNone (is_set low) from 128
    → HasNone (set.contains s) (128 + 0) end → HasNone (set.contains s) from end
none_lower low high s from end bits none further k late below =
    elim (cases_lt k 128) [
      | inl within ↦ host_low low high s k bits within ∙ none k late within
      | inr beyond ↦ further k (omega (arith, beyond)) below
    ]

pub none_at_all : (low high : ℕ) (s : HostNumbers) (from : ℕ) → HasBits low high s → HasNone (is_set low) from 128
    → HasNone (set.contains s) (128 + 0) 256 → HasNone (set.contains s) from 256
none_at_all low high s from = none_lower low high s from 256

pub first_after_lower : (low high : ℕ) (s : HostNumbers) (from host : ℕ) → from < 128 → HasBits low high s → HasNone (is_set low) from 128
    → IsFirstFrom (set.contains s) (128 + 0) host → IsFirstFrom (set.contains s) from host
first_after_lower low high s from host lower bits none first = record {
  late = omega (arith, lower, first.late);
  below = first.below;
  passes = first.passes;
  none_before = none_lower low high s from host bits none first.none_before;
}
