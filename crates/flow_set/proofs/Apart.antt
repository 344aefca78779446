-- Two sets of hosts, given by their bits, are disjoint if and only if they have no bit in common.
use Rattle.std.proofs.Common.{◌≡◌, ℕ, ◌+◌, ◌-◌, ◌^◌, ◌<◌, Bool, true, false, zero, suc, lit<, cond, nat_eq, nat_lt, min, sym, ◌∙◌, ap, bit_and, arith}
use Rattle.std.proofs.lemmas.Bool.{and_from, and_parts, cond-true, cond-false, eqb-true, eq-eqb, lt-ltb, le-ltb}
use Rattle.std.proofs.lemmas.Nat.Bits.{bit_at-lt, bit_at-zero, bit_at_and, same_from_bits_below}
use Rattle.std.proofs.Math.Nat.{add-sub_cancel}
use Rattle.std.specs.FinSet as set
use Rattle.std.specs.Int.{bit_at}
use lib.Bits.{and_le_l}
use Rattle.flow_set.specs.HostSet.{HostNumbers, hosts_below}
use Rattle.flow_set.specs.inner.Calls.{AreApart}
use Rattle.flow_set.specs.inner.HostBits.{is_marked}
use Rattle.flow_set.specs.laws.HostSetLaws.{contains-hosts_below}

none_common : (a b q : ℕ) → bit_and a b ≡ 0 → nat_eq (bit_at a q) 1 ≡ true → nat_eq (bit_at b q) 1 ≡ true → ⊥
none_common a b q none p r =
    let least : min (bit_at a q) (bit_at b q) ≡ 0 = sym (bit_at_and a b q) ∙ ap (λ n. bit_at n q) none ∙ bit_at-zero q in
    omega (arith, least, eqb-true _ _ p, eqb-true _ _ r)

not_both : (x y : ℕ) → x < 2 → y < 2 → (nat_eq x 1 ≡ true → nat_eq y 1 ≡ true → ⊥) → min x y ≡ 0
not_both zero y p q apart = omega arith
not_both (suc x) zero p q apart = omega arith
not_both (suc x) (suc y) p q apart = absurd (apart (eq-eqb _ _ (omega arith)) (eq-eqb _ _ (omega arith)))

common_none : (a b : ℕ) → a < 2 ^ 128 → ((q : ℕ) → q < 128 → nat_eq (bit_at a q) 1 ≡ true → nat_eq (bit_at b q) 1 ≡ true → ⊥)
    → bit_and a b ≡ 0
common_none a b small apart =
    same_from_bits_below 128 (bit_and a b) 0 (omega (arith, small, and_le_l a b)) (lit< tt)
    (λ q below. bit_at_and a b q ∙ not_both _ _ (bit_at-lt a q) (bit_at-lt b q) (apart q below) ∙ sym (bit_at-zero q))

pub marked_apart : (low high low_other high_other q : ℕ) → bit_and low low_other ≡ 0 → bit_and high high_other ≡ 0
    → is_marked low high q ≡ true → is_marked low_other high_other q ≡ true → ⊥
marked_apart low high low_other high_other q none_low none_high =
    elim (nat_lt q 128) as (λ b. cond b (nat_eq (bit_at low q) 1) (nat_eq (bit_at high (q - 128)) 1) ≡ true → cond b (nat_eq (bit_at low_other q) 1) (nat_eq (bit_at high_other (q - 128)) 1) ≡ true → ⊥) [
      | true ↦ none_common low low_other q none_low
      | false ↦ none_common high high_other (q - 128) none_high
    ]

in_low : (low high q : ℕ) → q < 128 → nat_eq (bit_at low q) 1 ≡ true → is_marked low high q ≡ true
in_low low high q below shown = cond-true (nat_lt q 128) _ _ (lt-ltb _ _ below) ∙ shown

in_high : (low high q : ℕ) → nat_eq (bit_at high q) 1 ≡ true → is_marked low high (q + 128) ≡ true
in_high low high q shown =
    cond-false (nat_lt (q + 128) 128) _ _ (le-ltb _ _ (omega arith)) ∙ ap (λ k. nat_eq (bit_at high k) 1) (add-sub_cancel q 128) ∙ shown

within_256 : (test : ℕ → Bool) (host : ℕ) → host < 256 → test host ≡ true → set.contains (hosts_below 256 test) host ≡ true
within_256 test host below shown = contains-hosts_below 256 test host ∙ and_from _ _ (lt-ltb _ _ below) shown

shown_of : (test : ℕ → Bool) (host : ℕ) → set.contains (hosts_below 256 test) host ≡ true → test host ≡ true
shown_of test host there = (and_parts _ _ (sym (contains-hosts_below 256 test host) ∙ there)).1

-- The set that the bits represent.
pub record HasBits (low high : ℕ) (s : HostNumbers) : Type 0 where
  pub made : hosts_below 256 (is_marked low high) ≡ s

there_from : (low high : ℕ) (s : HostNumbers) (host : ℕ) → HasBits low high s → host < 256 → is_marked low high host ≡ true
    → set.contains s host ≡ true
there_from low high s host bits below shown =
    ap (λ (x : HostNumbers). set.contains x host) (sym bits.made) ∙ within_256 (is_marked low high) host below shown

marked_from : (low high : ℕ) (s : HostNumbers) (host : ℕ) → HasBits low high s → set.contains s host ≡ true → is_marked low high host ≡ true
marked_from low high s host bits there =
    shown_of (is_marked low high) host (ap (λ (x : HostNumbers). set.contains x host) bits.made ∙ there)

pub apart_from_bits : (low high low_other high_other : ℕ) (s t : HostNumbers) → HasBits low high s → HasBits low_other high_other t
    → bit_and low low_other ≡ 0 → bit_and high high_other ≡ 0 → AreApart s t
apart_from_bits low high low_other high_other s t first second none_low none_high host there other =
    marked_apart low high low_other high_other host none_low none_high (marked_from low high s host first there)
    (marked_from low_other high_other t host second other)

pub low_apart : (low high low_other high_other : ℕ) (s t : HostNumbers) → HasBits low high s → HasBits low_other high_other t
    → low < 2 ^ 128
    → AreApart s t → bit_and low low_other ≡ 0
low_apart low high low_other high_other s t first second small apart =
    common_none low low_other small (λ q below here there.
    apart q (there_from low high s q first (omega (arith, below)) (in_low low high q below here)) (there_from low_other high_other t q second (omega (arith, below)) (in_low low_other high_other q below there)))

pub high_apart : (low high low_other high_other : ℕ) (s t : HostNumbers) → HasBits low high s → HasBits low_other high_other t
    → high < 2 ^ 128 → AreApart s t → bit_and high high_other ≡ 0
high_apart low high low_other high_other s t first second small apart =
    common_none high high_other small (λ q below here there.
    apart (q + 128) (there_from low high s (q + 128) first (omega (arith, below)) (in_high low high q here)) (there_from low_other high_other t (q + 128) second (omega (arith, below)) (in_high low_other high_other q there)))
