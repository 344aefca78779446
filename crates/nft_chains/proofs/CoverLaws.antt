-- The prefixes of a cover contain exactly the addresses of the interval.
use Rattle.std.proofs.Common.{◌≡◌, ◌⊎◌, inl, inr, ℕ, zero, suc, ◌+◌, ◌-◌, ◌*◌, ◌/◌, ◌^◌, ◌<◌, ◌≤◌, min, Bool, true, false, ◌||◌, IsTrue, List, [], ◌∷◌, ◌++◌, refl, sym, ap, ◌∙◌, arith}
use Rattle.std.specs.Prelude.{if◌then◌else◌, nat_le, nat_lt}
use Rattle.std.specs.List.{list_any}
use Rattle.std.proofs.lemmas.Bool.{and_from, and_parts, cases_lt, false≢true, or_cases, or_left, or_right}
use Rattle.std.proofs.lemmas.Bool.Decides.{nat_tests}
use Rattle.std.proofs.lemmas.List.Folds.{list_any-append}
use Rattle.std.proofs.lemmas.Nat.{div-mul-add, pow_pos}
use Rattle.host_net.specs.declared.prefix.Prefix.{Prefix}
use Rattle.host_net.specs.Prefix.{covers, prefix_with}
use Rattle.host_net.specs.PrefixView.{first_address, last_address}
use Rattle.host_net.proofs.PrefixLaws.{covers_between}
use Rattle.header_space.specs.declared.address_range.AddressRange.{AddressRange}
use Rattle.header_space.specs.Owners.{LiesIn}
use Rattle.nft_chains.specs.Translation.{cover, is_outside, is_within, prefixes_of}

-- Some prefix covers the address.
abbrev pub is_covered : ℕ → List Prefix → Bool
is_covered a qs = list_any (λ q. covers q a) qs

-- The address lies in the block and in the interval.
abbrev LiesInBlock : ℕ → ℕ → AddressRange → ℕ → Type 0
LiesInBlock bits first range a = (first ≤ a) × (a < first + 2 ^ bits) × LiesIn range a

pub pow_next : (n : ℕ) → 2 ^ suc n ≡ 2 ^ n + 2 ^ n
pow_next n = grind arith

-- ---- A block is a prefix

block_places : (bits : ℕ) → bits ≤ 32 → 32 - min (32 - bits) 32 ≡ bits
block_places bits few = omega arith

block_front : (bits k first : ℕ) → first ≡ k * 2 ^ bits → first / 2 ^ bits ≡ k
block_front bits k first is =
    let whole : first ≡ k * 2 ^ bits + 0 = omega (arith, is) in
    ap (λ n. n / 2 ^ bits) whole ∙ div-mul-add k (2 ^ bits) 0 (pow_pos bits)

block_first : (bits k first : ℕ) → bits ≤ 32 → first ≡ k * 2 ^ bits → first_address (prefix_with first (32 - bits)) ≡ first
unfolding first_address
block_first bits k first few is =
    ap (λ n. first / 2 ^ n * 2 ^ n) (block_places bits few) ∙ ap (λ q. q * 2 ^ bits) (block_front bits k first is) ∙ sym is

block_last : (bits k first : ℕ) → bits ≤ 32 → first ≡ k * 2 ^ bits → last_address (prefix_with first (32 - bits)) ≡ first + (2 ^ bits - 1)
unfolding last_address
block_last bits k first few is =
    ap (λ n. first / 2 ^ n * 2 ^ n + (2 ^ n - 1)) (block_places bits few)
    ∙ ap (λ q. q * 2 ^ bits + (2 ^ bits - 1)) (block_front bits k first is)
    ∙ ap (λ n. n + (2 ^ bits - 1)) (sym is)

in_block : (bits k first a : ℕ) → bits ≤ 32 → first ≡ k * 2 ^ bits → IsTrue (covers (prefix_with first (32 - bits)) a)
    → (first ≤ a) × (a < first + 2 ^ bits)
in_block bits k first a few is covered =
    let between = (covers_between (prefix_with first (32 - bits)) a).0 covered in
    (omega (arith, block_first bits k first few is, between.0), omega (arith, block_last bits k first few is, between.1, pow_pos bits))

of_block : (bits k first a : ℕ) → bits ≤ 32 → first ≡ k * 2 ^ bits → first ≤ a → a < first + 2 ^ bits
    → IsTrue (covers (prefix_with first (32 - bits)) a)
of_block bits k first a few is from before =
    (covers_between (prefix_with first (32 - bits)) a).1
    (omega (arith, block_first bits k first few is, from), omega (arith, block_last bits k first few is, before))

within_from : (bits first : ℕ) (range : AddressRange) → is_within bits first range ≡ true
    → (range.first ≤ first) × (first + 2 ^ bits ≤ range.last + 1)
within_from bits first range h =
    let parts = and_parts (nat_le range.first first) (nat_le (first + 2 ^ bits) (range.last + 1)) h in (grind (arith, nat_tests, parts.0), grind (arith, nat_tests, parts.1))

outside_from : (bits first a : ℕ) (range : AddressRange) → is_outside bits first range ≡ true → first ≤ a → a < first + 2 ^ bits
    → LiesIn range a → ⊥
outside_from bits first a range h from before lies = elim (or_cases (nat_le (first + 2 ^ bits) range.first) (nat_lt range.last first) h) [
  | inl below ↦ let past : first + 2 ^ bits ≤ range.first = grind (arith, nat_tests, below) in omega (arith, past, before, lies.0)
  | inr above ↦ let past : range.last < first = grind (arith, nat_tests, above) in omega (arith, past, from, lies.1)
]

-- The prefix of a block that lies within the interval.
whole_in : (bits k first a : ℕ) (range : AddressRange) → bits ≤ 32 → first ≡ k * 2 ^ bits → is_within bits first range ≡ true
    → is_covered a (prefix_with first (32 - bits) ∷ []) ≡ true → LiesInBlock bits first range a
whole_in bits k first a range few is within h = elim (or_cases (covers (prefix_with first (32 - bits)) a) false h) [
  | inl covered ↦
      let block = in_block bits k first a few is covered in
      let inside = within_from bits first range within in
      (block.0, block.1, (omega (arith, block.0, inside.0), omega (arith, block.1, inside.1)))
  | inr never ↦ absurd (false≢true never)
]

whole_of : (bits k first a : ℕ) → bits ≤ 32 → first ≡ k * 2 ^ bits → first ≤ a → a < first + 2 ^ bits
    → is_covered a (prefix_with first (32 - bits) ∷ []) ≡ true
whole_of bits k first a few is from before = or_left (covers (prefix_with first (32 - bits)) a) false (of_block bits k first a few is from before)

-- ---- No other address is covered

one_in : (b : Bool) (k first a : ℕ) (range : AddressRange) → is_within 0 first range ≡ b → first ≡ k * 2 ^ 0
    → is_covered a (if b then prefix_with first 32 ∷ [] else []) ≡ true → LiesInBlock 0 first range a
one_in true k first a range within is h = whole_in 0 k first a range (omega arith) is within h
one_in false k first a range within is h = absurd (false≢true h)

more_in : (b c : Bool) (bits k first a : ℕ) (range : AddressRange) (left right : List Prefix) → is_within bits first range ≡ b
    → bits ≤ 32 → first ≡ k * 2 ^ bits
    → (is_covered a left ≡ true → LiesInBlock bits first range a) → (is_covered a right ≡ true → LiesInBlock bits first range a)
    → is_covered a (if b then prefix_with first (32 - bits) ∷ [] else (if c then [] else left ++ right)) ≡ true → LiesInBlock bits first range a
more_in true c bits k first a range left right within few is lower upper h = whole_in bits k first a range few is within h
more_in false true bits k first a range left right within few is lower upper h = absurd (false≢true h)
more_in false false bits k first a range left right within few is lower upper h =
    elim (or_cases (is_covered a left) (is_covered a right) (sym (list_any-append (λ q. covers q a) left right) ∙ h)) [
      | inl low ↦ lower low
      | inr high ↦ upper high
    ]

lower_half : (bits k first : ℕ) → first ≡ k * 2 ^ suc bits → first ≡ (k + k) * 2 ^ bits
lower_half bits k first is =
    let low : first ≡ k * (2 ^ bits + 2 ^ bits) = is ∙ ap (λ n. k * n) (pow_next bits) in grind (arith, low)

upper_half : (bits k first : ℕ) → first ≡ k * 2 ^ suc bits → first + 2 ^ bits ≡ (k + k + 1) * 2 ^ bits
upper_half bits k first is =
    let low = lower_half bits k first is in grind (arith, low)

cover_in : (bits k first a : ℕ) (range : AddressRange) → bits ≤ 32 → first ≡ k * 2 ^ bits → is_covered a (cover bits first range) ≡ true
    → LiesInBlock bits first range a
unfolding cover
cover_in zero k first a range few is h = one_in (is_within 0 first range) k first a range refl is h
cover_in (suc bits) k first a range few is h =
    let twice = pow_next bits in
    more_in (is_within (suc bits) first range) (is_outside (suc bits) first range) (suc bits) k first a range
    (cover bits first range) (cover bits (first + 2 ^ bits) range) refl few is
    (λ low. let found = cover_in bits (k + k) first a range (omega (arith, few)) (lower_half bits k first is) low in
    (found.0, omega (arith, found.1, twice), found.2))
    (λ high. let found = cover_in bits (k + k + 1) (first + 2 ^ bits) a range (omega (arith, few)) (upper_half bits k first is) high in
    (omega (arith, found.0), omega (arith, found.1, twice), found.2))
    h

-- ---- Each address of the interval is covered

one_of : (b : Bool) (k first a : ℕ) (range : AddressRange) → is_within 0 first range ≡ b → first ≡ k * 2 ^ 0
    → first ≤ a → a < first + 2 ^ 0 → LiesIn range a → is_covered a (if b then prefix_with first 32 ∷ [] else []) ≡ true
one_of true k first a range within is from before lies = whole_of 0 k first a (omega arith) is from before
one_of false k first a range within is from before lies =
    let same : a ≡ first = omega (arith, from, before) in
    let low : range.first ≤ first = omega (arith, same, lies.0) in
    let high : first + 2 ^ 0 ≤ range.last + 1 = omega (arith, same, lies.1) in
    let inside : is_within 0 first range ≡ true =
    and_from (nat_le range.first first) (nat_le (first + 2 ^ 0) (range.last + 1)) (grind (arith, nat_tests, low)) (grind (arith, nat_tests, high)) in
    absurd (false≢true (sym within ∙ inside))

more_of : (b c : Bool) (bits k first a : ℕ) (range : AddressRange) (left right : List Prefix) → is_outside bits first range ≡ c
    → bits ≤ 32 → first ≡ k * 2 ^ bits → first ≤ a → a < first + 2 ^ bits → LiesIn range a
    → (is_covered a left ≡ true) ⊎ (is_covered a right ≡ true)
    → is_covered a (if b then prefix_with first (32 - bits) ∷ [] else (if c then [] else left ++ right)) ≡ true
more_of true c bits k first a range left right outside few is from before lies half = whole_of bits k first a few is from before
more_of false true bits k first a range left right outside few is from before lies half =
    absurd (outside_from bits first a range outside from before lies)
more_of false false bits k first a range left right outside few is from before lies half =
    list_any-append (λ q. covers q a) left right ∙ by_half half
  where
    by_half : (is_covered a left ≡ true) ⊎ (is_covered a right ≡ true) → (is_covered a left || is_covered a right) ≡ true
    by_half (inl low) = or_left (is_covered a left) (is_covered a right) low
    by_half (inr high) = or_right (is_covered a left) (is_covered a right) high

cover_of : (bits k first a : ℕ) (range : AddressRange) → bits ≤ 32 → first ≡ k * 2 ^ bits → first ≤ a → a < first + 2 ^ bits
    → LiesIn range a → is_covered a (cover bits first range) ≡ true
unfolding cover
cover_of zero k first a range few is from before lies = one_of (is_within 0 first range) k first a range refl is from before lies
cover_of (suc bits) k first a range few is from before lies =
    let twice = pow_next bits in
    let half : (is_covered a (cover bits first range) ≡ true) ⊎ (is_covered a (cover bits (first + 2 ^ bits) range) ≡ true) =
    elim (cases_lt a (first + 2 ^ bits)) [
      | inl low ↦ inl (cover_of bits (k + k) first a range (omega (arith, few)) (lower_half bits k first is) from low lies)
      | inr high ↦
          inr (cover_of bits (k + k + 1) (first + 2 ^ bits) a range (omega (arith, few)) (upper_half bits k first is) high
          (omega (arith, before, twice)) lies)
    ] in
    more_of (is_within (suc bits) first range) (is_outside (suc bits) first range) (suc bits) k first a range
    (cover bits first range) (cover bits (first + 2 ^ bits) range) refl few is from before lies half

-- ---- The whole interval

pub covered_lies : (a : ℕ) (range : AddressRange) → is_covered a (prefixes_of range) ≡ true → LiesIn range a
covered_lies a range h = (cover_in 32 0 0 a range (omega arith) refl h).2

pub lies_covered : (a : ℕ) (range : AddressRange) → a < 2 ^ 32 → LiesIn range a → is_covered a (prefixes_of range) ≡ true
lies_covered a range fits lies = cover_of 32 0 0 a range (omega arith) refl (omega arith) (omega (arith, fits)) lies

-- ---- A block that is cut in half

pub half_block : (bits : ℕ) → 0 < bits → 2 ^ bits ≡ 2 ^ (bits - 1) + 2 ^ (bits - 1)
half_block zero some = absurd (omega (arith, some))
half_block (suc bits) some = let same : suc bits - 1 ≡ bits = omega arith in rw same (pow_next bits)

pub cover_whole : (bits first : ℕ) (range : AddressRange) → is_within bits first range ≡ true → cover bits first range ≡ prefix_with first (32 - bits) ∷ []
unfolding cover
cover_whole zero first range within = rw within refl
cover_whole (suc bits) first range within = rw within refl

pub cover_none : (bits first : ℕ) (range : AddressRange) → is_within bits first range ≡ false → is_outside bits first range ≡ true → cover bits first range ≡ []
unfolding cover
cover_none zero first range within outside = rw within refl
cover_none (suc bits) first range within outside = rw (within, outside) refl

pub cover_halves : (bits first : ℕ) (range : AddressRange) → 0 < bits → is_within bits first range ≡ false → is_outside bits first range ≡ false
    → cover bits first range ≡ cover (bits - 1) first range ++ cover (bits - 1) (first + 2 ^ (bits - 1)) range
unfolding cover
cover_halves zero first range some within outside = absurd (omega (arith, some))
cover_halves (suc bits) first range some within outside =
    let same : suc bits - 1 ≡ bits = omega arith in
    rw (within, outside, same) refl

pub cover_one : (bits first : ℕ) (range : AddressRange) → bits ≡ 0 → is_within bits first range ≡ false → cover bits first range ≡ []
unfolding cover
cover_one zero first range none within = rw within refl
cover_one (suc bits) first range none within = absurd (omega (arith, none))
