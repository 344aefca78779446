-- Ranges of addresses that are added in ascending order.
use Rattle.std.proofs.Common.{◌≡◌, ◌⊎◌, inl, inr, ℕ, ◌+◌, ◌<◌, ◌≤◌, ◌^◌, Bool, true, false, List, [], ◌∷◌, ◌++◌, Option, Some, None, refl, sym, ap, subst, ◌∙◌, arith, append-nil}
use Rattle.std.specs.Prelude.{if◌then◌else◌}
use Rattle.std.specs.Option.{option_or}
use Rattle.std.proofs.lemmas.Bool.{cases_lt}
use Rattle.std.proofs.lemmas.Bool.Decides.{nat_tests}
use Rattle.host_net.specs.Host.{Host, owner_of, prefix_owner_of, rest_of}
use Rattle.header_space.specs.declared.address_range.AddressRange.{AddressRange}
use Rattle.nft_emit.specs.declared.cuts.Cut.{Cut}
use Rattle.nft_emit.specs.inner.Cuts.{AreOwned, IsCut, LieBetween, cut_if, is_same_host}

-- 1. Lists of ranges.

owned_append : (hosts : List Host) (xs ys : List Cut) → AreOwned hosts xs → AreOwned hosts ys → AreOwned hosts (xs ++ ys)
owned_append hosts [] ys left right = right
owned_append hosts (x ∷ xs) ys left right = (left.0, owned_append hosts xs ys left.1 right)

cut_left : (xs ys : List Cut) (a : ℕ) → IsCut xs a → IsCut (xs ++ ys) a
cut_left [] ys a is = absurd is
cut_left (x ∷ xs) ys a (inl here) = inl here
cut_left (x ∷ xs) ys a (inr later) = inr (cut_left xs ys a later)

cut_right : (xs ys : List Cut) (a : ℕ) → IsCut ys a → IsCut (xs ++ ys) a
cut_right [] ys a is = is
cut_right (x ∷ xs) ys a is = inr (cut_right xs ys a is)

between_more : (from : ℕ) (xs : List Cut) (end more : ℕ) → LieBetween from xs end → end ≤ more → LieBetween from xs more
between_more from [] end more before low = omega (arith, before, low)
between_more from (x ∷ xs) end more before low = (before.0, before.1, between_more (x.range.last + 1) xs end more before.2 low)

between_push : (from : ℕ) (xs : List Cut) (x : Cut) → LieBetween from xs x.range.first → x.range.first ≤ x.range.last
    → LieBetween from (xs ++ x ∷ []) (x.range.last + 1)
between_push from [] x before some = (before, some, omega arith)
between_push from (y ∷ ys) x before some = (before.0, before.1, between_push (y.range.last + 1) ys x before.2 some)

-- 2. The range of an owner, unless it is the rest host.

none_is_rest : (own rest : Option ℕ) → option_or own rest ≡ None → option_or own rest ≡ rest
none_is_rest None rest none = refl
none_is_rest (Some i) rest none = cc

-- An address without owner: there is no rest host.
ownerless : (hosts : List Host) (a : ℕ) → owner_of hosts a ≡ None → owner_of hosts a ≡ rest_of hosts
unfolding owner_of
ownerless hosts a none = none_is_rest (prefix_owner_of hosts a) (rest_of hosts) none

same_host : (rest : Option ℕ) (host : ℕ) → is_same_host rest host ≡ true → Some host ≡ rest
same_host None host same = cc
same_host (Some r) host same = let is : r ≡ host = grind (arith, nat_tests) in ap (λ (i : ℕ). Some i) (sym is)

abbrev one_cut : AddressRange → ℕ → List Cut
one_cut range j = record { range = range; host = j } ∷ []

-- The range is added with its owner, or it belongs to the rest host, or to no host.
added : (rest owner : Option ℕ) (range : AddressRange)
    → ((j : ℕ) × (owner ≡ Some j) × (cut_if rest owner range ≡ one_cut range j))
    ⊎ ((cut_if rest owner range ≡ []) × ((owner ≡ None) ⊎ (owner ≡ rest)))
added rest None range = inr (refl, inl refl)
added rest (Some j) range = by_test (is_same_host rest j) refl
  where
    by_test : (b : Bool) → is_same_host rest j ≡ b
        → ((i : ℕ) × (Some j ≡ Some i) × ((if b then [] else one_cut range j) ≡ one_cut range i))
        ⊎ (((if b then [] else one_cut range j) ≡ []) × ((Some j ≡ None) ⊎ (Some j ≡ rest)))
    by_test true same = inr (refl, inr (same_host rest j same))
    by_test false other = inl (j, refl, refl)

-- 3. Another range.

pub owned_step : (hosts : List Host) (rest : Option ℕ) (old : List Cut) (owner : Option ℕ) (range : AddressRange) → AreOwned hosts old
    → ((a : ℕ) → range.first ≤ a → a ≤ range.last → owner_of hosts a ≡ owner) → AreOwned hosts (old ++ cut_if rest owner range)
owned_step hosts rest old owner range before is = elim (added rest owner range) [
  | inl new ↦
      subst (λ (xs : List Cut). AreOwned hosts (old ++ xs)) (sym new.2)
      (owned_append hosts old (record { range = range; host = new.0 } ∷ []) before ((λ a lies. is a lies.0 lies.1 ∙ new.1), tt))
  | inr none ↦ subst (λ (xs : List Cut). AreOwned hosts (old ++ xs)) (sym none.0) (subst (AreOwned hosts) (sym (append-nil old)) before)
]

pub covered_step : (hosts : List Host) (rest : Option ℕ) (old : List Cut) (owner : Option ℕ) (range : AddressRange) → rest ≡ rest_of hosts
    → ((a : ℕ) → range.first ≤ a → a ≤ range.last → owner_of hosts a ≡ owner)
    → ((a : ℕ) → a < range.first → (owner_of hosts a ≡ rest_of hosts) ⊎ IsCut old a)
    → (a : ℕ) → a ≤ range.last → (owner_of hosts a ≡ rest_of hosts) ⊎ IsCut (old ++ cut_if rest owner range) a
covered_step hosts rest old owner range is_rest is before a low = elim (cases_lt a range.first) [
  | inl earlier ↦ elim (before a earlier) [
    | inl of_rest ↦ inl of_rest
    | inr cut ↦ inr (cut_left old (cut_if rest owner range) a cut)
  ]
  | inr later ↦ elim (added rest owner range) [
    | inl new ↦
        inr (subst (λ (xs : List Cut). IsCut (old ++ xs) a) (sym new.2) (cut_right old (record { range = range; host = new.0 } ∷ []) a (inl (later, low))))
    | inr none ↦ elim none.1 [
      | inl no_owner ↦ inl (ownerless hosts a (is a later low ∙ no_owner))
      | inr of_rest ↦ inl (is a later low ∙ of_rest ∙ is_rest)
    ]
  ]
]

pub between_step : (rest : Option ℕ) (old : List Cut) (owner : Option ℕ) (range : AddressRange) → LieBetween 0 old range.first → range.first ≤ range.last
    → LieBetween 0 (old ++ cut_if rest owner range) (range.last + 1)
between_step rest old owner range before some = elim (added rest owner range) [
  | inl new ↦
      subst (λ (xs : List Cut). LieBetween 0 (old ++ xs) (range.last + 1)) (sym new.2)
      (between_push 0 old (record { range = range; host = new.0 }) before some)
  | inr none ↦
      subst (λ (xs : List Cut). LieBetween 0 (old ++ xs) (range.last + 1)) (sym none.0)
      (subst (λ (xs : List Cut). LieBetween 0 xs (range.last + 1)) (sym (append-nil old)) (between_more 0 old range.first (range.last + 1) before (omega (arith, some))))
]

-- 4. The end of the address space.

pub last_all : (last a : ℕ) → last ≡ 4294967295 → a < 2 ^ 32 → a ≤ last
last_all last a is low = omega (arith, is, low)

pub next_small : (last : ℕ) → last ≤ 4294967295 → (last ≡ 4294967295 → ⊥) → last + 1 ≤ 4294967295
next_small last low other = elim (cases_lt last 4294967295) [
  | inl less ↦ omega (arith, less)
  | inr more ↦ let same : last ≡ 4294967295 = omega (arith, more, low) in absurd (other same)
]

pub between_all : (xs : List Cut) (last : ℕ) → last ≡ 4294967295 → LieBetween 0 xs (last + 1) → LieBetween 0 xs (2 ^ 32)
between_all xs last is between = let same : last + 1 ≡ 2 ^ 32 = omega (arith, is) in subst (LieBetween 0 xs) same between
