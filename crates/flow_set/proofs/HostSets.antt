-- Sets of hosts, given by their bits: the effect of a change of the bits, and the number of hosts.
use Rattle.std.proofs.Common.{◌≡◌, ℕ, zero, suc, ◌+◌, ◌-◌, ◌*◌, ◌/◌, ◌%◌, ◌^◌, ◌<◌, ◌≤◌, Bool, true, false, not, ◌&&◌, ◌||◌, cond, nat_eq, nat_lt, nat_cmp, sym, ◌∙◌, ap, bit_or, bit_and, arith, add-suc, add-zero, zero-add, max, min, inl, inr}
use Rattle.std.specs.Prelude.{count_ones}
use Rattle.std.proofs.lemmas.Bool.{cond_both, cond-true, cond-false, cases_eq, eq-eqb, ne_eqb, lt-ltb, le-ltb}
use Rattle.std.proofs.lemmas.Bool.Decides.{nat_tests}
use Rattle.std.proofs.lemmas.Nat.{mod-pow-add, pow_pos}
use Rattle.std.proofs.lemmas.Nat.Bits.{shr_and_one, bit_at-lt, bit_at-zero, bit_at_or, bit_at_and, bit_at_not, bit_at_set_same, bit_at_set_other, bit_at_clear_same, bit_at_clear_other}
use Rattle.std.proofs.Math.Nat.{mod-eq_of_lt, mod-lt}
use Rattle.std.specs.Cmp.{nat_cmp_total}
use Rattle.std.specs.FinSet as set
use Rattle.std.specs.Int.{bit_at, bit_not, w128}
use lib.Count.{ones_cat, ones-ones}
use Rattle.flow_set.specs.HostSet.{hosts_below}
use Rattle.flow_set.specs.inner.HostBits.{is_marked}
use Rattle.flow_set.specs.laws.HostSetLaws.{contains-insert, contains-remove, hosts_ext, below_none, contains-hosts_below, len_more}

-- ---- the effect of a change of the test on the set

pub hosts_below-empty : (n : ℕ) (test : ℕ → Bool) → ((q : ℕ) → q < n → test q ≡ false) → hosts_below n test ≡ set.empty
hosts_below-empty n test none =
    hosts_ext _ _ (λ q. contains-hosts_below n test q ∙ below_none n q (test q) (none q) ∙ sym (set.contains-empty nat_cmp q))

below_insert : (n host q : ℕ) (b c : Bool) → host < n → (q < n → c ≡ (nat_eq q host || b))
    → (nat_lt q n && c) ≡ (nat_eq q host || (nat_lt q n && b))
below_insert n host q b c within grown = grind (arith, nat_tests)

pub hosts_below-insert : (n : ℕ) (test grown : ℕ → Bool) (host : ℕ) → host < n
    → ((q : ℕ) → q < n → grown q ≡ (nat_eq q host || test q)) → hosts_below n grown ≡ set.insert (hosts_below n test) host
hosts_below-insert n test grown host within each =
    hosts_ext _ _ (λ q.
    contains-hosts_below n grown q ∙ below_insert n host q (test q) (grown q) within (each q)
    ∙ ap (λ b. nat_eq q host || b) (sym (contains-hosts_below n test q)) ∙ sym (contains-insert (hosts_below n test) host q))

below_union : (n q : ℕ) (a b c : Bool) → (q < n → c ≡ (a || b)) → (nat_lt q n && c) ≡ ((nat_lt q n && a) || (nat_lt q n && b))
below_union n q a b c grown = grind (arith, nat_tests)

pub hosts_below-union : (n : ℕ) (test other grown : ℕ → Bool) → ((q : ℕ) → q < n → grown q ≡ (test q || other q))
    → hosts_below n grown ≡ set.union (hosts_below n test) (hosts_below n other)
hosts_below-union n test other grown each =
    hosts_ext _ _ (λ q.
    contains-hosts_below n grown q ∙ below_union n q (test q) (other q) (grown q) (each q)
    ∙ (λ i. sym (contains-hosts_below n test q) i || sym (contains-hosts_below n other q) i) ∙ sym (set.contains-union nat_cmp_total (hosts_below n test) (hosts_below n other) q))

below_difference : (n q : ℕ) (a b c : Bool) → (q < n → c ≡ (a && not b)) → (nat_lt q n && c) ≡ ((nat_lt q n && a) && not (nat_lt q n && b))
below_difference n q a b c fewer = grind (arith, nat_tests)

pub hosts_below-difference : (n : ℕ) (test other fewer : ℕ → Bool) → ((q : ℕ) → q < n → fewer q ≡ (test q && not (other q)))
    → hosts_below n fewer ≡ set.difference (hosts_below n test) (hosts_below n other)
hosts_below-difference n test other fewer each =
    hosts_ext _ _ (λ q.
    contains-hosts_below n fewer q ∙ below_difference n q (test q) (other q) (fewer q) (each q)
    ∙ (λ i. sym (contains-hosts_below n test q) i && not (sym (contains-hosts_below n other q) i)) ∙ sym (set.contains-difference nat_cmp_total (hosts_below n test) (hosts_below n other) q))

below_remove : (n host q : ℕ) (b c : Bool) → (q < n → c ≡ (not (nat_eq q host) && b))
    → (nat_lt q n && c) ≡ (not (nat_eq q host) && (nat_lt q n && b))
below_remove n host q b c fewer = grind (arith, nat_tests)

pub hosts_below-remove : (n : ℕ) (test fewer : ℕ → Bool) (host : ℕ) → ((q : ℕ) → q < n → fewer q ≡ (not (nat_eq q host) && test q))
    → hosts_below n fewer ≡ set.remove (hosts_below n test) host
hosts_below-remove n test fewer host each =
    hosts_ext _ _ (λ q.
    contains-hosts_below n fewer q ∙ below_remove n host q (test q) (fewer q) (each q)
    ∙ ap (λ b. not (nat_eq q host) && b) (sym (contains-hosts_below n test q)) ∙ sym (contains-remove (hosts_below n test) host q))

-- ---- the bits of a set

pub no_bits : (q : ℕ) → is_marked 0 0 q ≡ false
no_bits q =
    cond_both (nat_lt q 128) _ _ (λ b. b ≡ false) (λ _. ap (λ b. nat_eq b 1) (bit_at-zero q))
    (λ _. ap (λ b. nat_eq b 1) (bit_at-zero (q - 128)))

-- Setting bit k of n.
is_set : (n k q : ℕ) → k < 128 → nat_eq (bit_at (bit_or n (1 * 2 ^ k % 2 ^ 128)) q) 1 ≡ (nat_eq q k || nat_eq (bit_at n q) 1)
is_set n k q within =
    elim (cases_eq q k) [
      | inl same ↦
          ap (λ b. nat_eq b 1) (ap (λ x. bit_at (bit_or n (1 * 2 ^ k % 2 ^ 128)) x) same ∙ bit_at_set_same w128 n k within)
          ∙ ap (λ b. b || nat_eq (bit_at n q) 1) (sym (eq-eqb q k same))
      | inr other ↦
          ap (λ b. nat_eq b 1) (bit_at_set_other w128 n k within q other)
          ∙ ap (λ b. b || nat_eq (bit_at n q) 1) (sym (ne_eqb q k other))
    ]

low_case : (host q : ℕ) (a b c : Bool) → host < 128 → a ≡ (nat_eq q host || b)
    → cond (nat_lt q 128) a c ≡ (nat_eq q host || cond (nat_lt q 128) b c)
low_case host q a b c below e = grind (arith, nat_tests)

pub is_marked-low : (low high host q : ℕ) → host < 128
    → is_marked (bit_or low (1 * 2 ^ host % 2 ^ 128)) high q ≡ (nat_eq q host || is_marked low high q)
is_marked-low low high host q below = low_case host q _ _ _ below (is_set low host q below)

high_case : (host q : ℕ) (a b c : Bool) → 128 ≤ host → a ≡ (nat_eq (q - 128) (host - 128) || b)
    → cond (nat_lt q 128) c a ≡ (nat_eq q host || cond (nat_lt q 128) c b)
high_case host q a b c from e = grind (arith, nat_tests)

pub is_marked-high : (low high host q : ℕ) → 128 ≤ host → host < 256
    → is_marked low (bit_or high (1 * 2 ^ (host - 128) % 2 ^ 128)) q ≡ (nat_eq q host || is_marked low high q)
is_marked-high low high host q from below = high_case host q _ _ _ from (is_set high (host - 128) (q - 128) (omega arith))

-- Clearing bit k of n.
is_cleared : (n k q : ℕ) → k < 128 → q < 128
    → nat_eq (bit_at (bit_and n (bit_not w128 (1 * 2 ^ k % 2 ^ 128))) q) 1 ≡ (not (nat_eq q k) && nat_eq (bit_at n q) 1)
is_cleared n k q within below =
    elim (cases_eq q k) [
      | inl same ↦
          ap (λ b. nat_eq b 1)
          (ap (λ x. bit_at (bit_and n (bit_not w128 (1 * 2 ^ k % 2 ^ 128))) x) same ∙ bit_at_clear_same w128 n k within)
          ∙ ap (λ b. not b && nat_eq (bit_at n q) 1) (sym (eq-eqb q k same))
      | inr other ↦
          ap (λ b. nat_eq b 1) (bit_at_clear_other w128 n k within q below other)
          ∙ ap (λ b. not b && nat_eq (bit_at n q) 1) (sym (ne_eqb q k other))
    ]

low_cleared : (host q : ℕ) (a b c : Bool) → host < 128 → (q < 128 → a ≡ (not (nat_eq q host) && b))
    → cond (nat_lt q 128) a c ≡ (not (nat_eq q host) && cond (nat_lt q 128) b c)
low_cleared host q a b c below e = grind (arith, nat_tests)

pub is_marked-low_cleared : (low high host q : ℕ) → host < 128
    → is_marked (bit_and low (bit_not w128 (1 * 2 ^ host % 2 ^ 128))) high q ≡ (not (nat_eq q host) && is_marked low high q)
is_marked-low_cleared low high host q below = low_cleared host q _ _ _ below (λ h. is_cleared low host q below h)

high_cleared : (host q : ℕ) (a b c : Bool) → 128 ≤ host → (128 ≤ q → a ≡ (not (nat_eq (q - 128) (host - 128)) && b))
    → cond (nat_lt q 128) c a ≡ (not (nat_eq q host) && cond (nat_lt q 128) c b)
high_cleared host q a b c from e = grind (arith, nat_tests)

pub is_marked-high_cleared : (low high host q : ℕ) → 128 ≤ host → host < 256 → q < 256
    → is_marked low (bit_and high (bit_not w128 (1 * 2 ^ (host - 128) % 2 ^ 128))) q ≡ (not (nat_eq q host) && is_marked low high q)
is_marked-high_cleared low high host q from below within =
    high_cleared host q _ _ _ from (λ _. is_cleared high (host - 128) (q - 128) (omega arith) (omega arith))

is_one_of_two : (a b : ℕ) → a < 2 → b < 2 → nat_eq (max a b) 1 ≡ (nat_eq a 1 || nat_eq b 1)
is_one_of_two a b p q = grind (arith, nat_tests)

is_joined : (n m q : ℕ) → nat_eq (bit_at (bit_or n m) q) 1 ≡ (nat_eq (bit_at n q) 1 || nat_eq (bit_at m q) 1)
is_joined n m q = ap (λ b. nat_eq b 1) (bit_at_or n m q) ∙ is_one_of_two _ _ (bit_at-lt n q) (bit_at-lt m q)

both_cases : (t a b c d e f : Bool) → a ≡ (b || c) → d ≡ (e || f) → cond t a d ≡ (cond t b e || cond t c f)
both_cases true a b c d e f p r = p
both_cases false a b c d e f p r = r

pub is_marked-both : (low high low' high' q : ℕ)
    → is_marked (bit_or low low') (bit_or high high') q ≡ (is_marked low high q || is_marked low' high' q)
is_marked-both low high low' high' q = both_cases (nat_lt q 128) _ _ _ _ _ _ (is_joined low low' q) (is_joined high high' (q - 128))

is_left : (a b : ℕ) → a < 2 → b < 2 → nat_eq (min a (1 - b)) 1 ≡ (nat_eq a 1 && not (nat_eq b 1))
is_left a b p q = grind (arith, nat_tests)

is_without : (n m q : ℕ) → m < 2 ^ 128 → q < 128
    → nat_eq (bit_at (bit_and n (bit_not w128 m)) q) 1 ≡ (nat_eq (bit_at n q) 1 && not (nat_eq (bit_at m q) 1))
is_without n m q fits below =
    ap (λ b. nat_eq b 1) (bit_at_and n (bit_not w128 m) q ∙ ap (min (bit_at n q)) (bit_at_not w128 m q fits below))
    ∙ is_left _ _ (bit_at-lt n q) (bit_at-lt m q)

without_cases : (q : ℕ) (a b c d e f : Bool) → (q < 128 → a ≡ (b && not c)) → (128 ≤ q → d ≡ (e && not f))
    → cond (nat_lt q 128) a d ≡ (cond (nat_lt q 128) b e && not (cond (nat_lt q 128) c f))
without_cases q a b c d e f low high = grind (arith, nat_tests)

pub is_marked-without : (low high low' high' q : ℕ) → low' < 2 ^ 128 → high' < 2 ^ 128 → q < 256
    → is_marked (bit_and low (bit_not w128 low')) (bit_and high (bit_not w128 high')) q ≡ (is_marked low high q && not (is_marked low' high' q))
is_marked-without low high low' high' q low_fits high_fits within =
    without_cases q _ _ _ _ _ _ (is_without low low' q low_fits) (λ late. is_without high high' (q - 128) high_fits (omega (arith, late, within)))

in_range : (q : ℕ) (b : Bool) → q < 256 → (nat_lt q 256 && b) ≡ b
in_range q b below = grind (arith, nat_tests)

pub contains-marked : (low high q : ℕ) → q < 256 → set.contains (hosts_below 256 (is_marked low high)) q ≡ is_marked low high q
contains-marked low high q below = contains-hosts_below 256 (is_marked low high) q ∙ in_range q _ below

-- The test of one bit.
pub bit-low : (low high q : ℕ) → q < 128 → nat_eq (bit_and (low / 2 ^ q) 1) 1 ≡ set.contains (hosts_below 256 (is_marked low high)) q
bit-low low high q below =
    ap (λ b. nat_eq b 1) (shr_and_one low q)
    ∙ sym (contains-marked low high q (omega arith) ∙ cond-true (nat_lt q 128) _ _ (lt-ltb q 128 below))

pub bit-high : (low high q : ℕ) → 128 ≤ q → q < 256
    → nat_eq (bit_and (high / 2 ^ (q - 128)) 1) 1 ≡ set.contains (hosts_below 256 (is_marked low high)) q
bit-high low high q from below =
    ap (λ b. nat_eq b 1) (shr_and_one high (q - 128))
    ∙ sym (contains-marked low high q below ∙ cond-false (nat_lt q 128) _ _ (le-ltb q 128 from))

-- ---- the size

bit_count : (b : ℕ) → b < 2 → count_ones b ≡ cond (nat_eq b 1) 1 0
bit_count zero below = ones-ones 0
bit_count (suc zero) below = ones-ones 1
bit_count (suc (suc b)) below = absurd (omega arith)

-- The number of ones among the lowest k bits is the number of hosts from `start` on that they represent.
len-bits : (start : ℕ) (test : ℕ → Bool) (bits k : ℕ) → ((h : ℕ) → h < k → test (start + h) ≡ nat_eq (bit_at bits h) 1)
    → set.len (hosts_below (start + k) test) ≡ set.len (hosts_below start test) + count_ones (bits % 2 ^ k)
len-bits start test bits zero named =
    let none : bits % 1 ≡ 0 = omega arith in
    ap (λ n. set.len (hosts_below n test)) (add-zero start)
    ∙ sym
    (ap (λ b. set.len (hosts_below start test) + count_ones b) none ∙ ap (λ b. set.len (hosts_below start test) + b) (ones-ones 0) ∙ add-zero _)
len-bits start test bits (suc k) named =
    let shorter = len-bits start test bits k (λ h below. named h (omega arith)) in
    let bit : cond (test (start + k)) 1 0 ≡ count_ones (bit_at bits k) =
    ap (λ b. cond b 1 0) (named k (omega arith)) ∙ sym (bit_count _ (bit_at-lt bits k)) in
    let one_more : suc k ≡ 1 + k = omega arith in
    let digits =
    ap (λ x. count_ones (bits % 2 ^ x)) one_more ∙ ap count_ones (mod-pow-add bits 1 k)
    ∙ ones_cat k (bit_at bits k) (bits % 2 ^ k) (mod-lt bits (pow_pos k)) in
    ap (λ n. set.len (hosts_below n test)) (add-suc start k) ∙ len_more (start + k) test ∙ omega arith

marked_low : (low high h : ℕ) → h < 128 → is_marked low high (0 + h) ≡ nat_eq (bit_at low h) 1
marked_low low high h below = ap (λ n. is_marked low high n) (zero-add h) ∙ cond-true (nat_lt h 128) _ _ (lt-ltb h 128 below)

marked_high : (low high h : ℕ) → is_marked low high (128 + h) ≡ nat_eq (bit_at high h) 1
marked_high low high h =
    let place : 128 + h - 128 ≡ h = omega arith in
    cond-false (nat_lt (128 + h) 128) _ _ (le-ltb (128 + h) 128 (omega arith)) ∙ ap (λ n. nat_eq (bit_at high n) 1) place

pub len-marked : (low high : ℕ) → low < 2 ^ 128 → high < 2 ^ 128
    → set.len (hosts_below 256 (is_marked low high)) ≡ count_ones low + count_ones high
unfolding hosts_below
len-marked low high low_fits high_fits =
    let test = is_marked low high in
    len-bits 128 test high 128 (λ h _. marked_high low high h)
    ∙ ap (λ n. n + count_ones (high % 2 ^ 128))
    (len-bits 0 test low 128 (marked_low low high) ∙ ap (λ n. n + count_ones (low % 2 ^ 128)) (set.len-empty nat_cmp) ∙ zero-add _)
    ∙ (λ i. count_ones (mod-eq_of_lt low_fits i) + count_ones (mod-eq_of_lt high_fits i))
