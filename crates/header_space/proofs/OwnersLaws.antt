-- Address ranges of owners: the addresses that they contain, and the owners in order.
use Rattle.std.proofs.Common.{◌≡◌, ◌⊎◌, inl, inr, ℕ, zero, suc, ◌+◌, ◌<◌, ◌≤◌, ◌^◌, Bool, true, false, if◌then◌else◌, List, [], ◌∷◌, ◌++◌, Option, Some, None, length, map, drop, get_or, refl, sym, ap, subst, ◌∙◌, arith, append-nil}
use Rattle.std.proofs.lemmas.Bool.{cases_lt}
use Rattle.std.specs.List.{All}
use Rattle.std.proofs.lemmas.List.{drop_all}
use Rattle.std.proofs.lemmas.List.Elements.{All-push}
use Rattle.host_net.specs.Host.{Host, owner_of}
use Rattle.header_space.specs.declared.address_range.AddressRange.{AddressRange}
use Rattle.header_space.specs.declared.owners.Owned.{Owned}
use Rattle.header_space.specs.Owners.{HasRanges, IsOwned, IsRange, IsRangeOf, LiesIn, LiesInOne, owners_from, owners_of}

-- 1. Addresses in ranges.

pub covered_left : (xs ys : List AddressRange) (a : ℕ) → LiesInOne xs a → LiesInOne (xs ++ ys) a
covered_left [] ys a covered = absurd covered
covered_left (x ∷ xs) ys a (inl here) = inl here
covered_left (x ∷ xs) ys a (inr later) = inr (covered_left xs ys a later)

pub covered_right : (xs ys : List AddressRange) (a : ℕ) → LiesInOne ys a → LiesInOne (xs ++ ys) a
covered_right [] ys a covered = covered
covered_right (x ∷ xs) ys a covered = inr (covered_right xs ys a covered)

pub covered_cases : (xs ys : List AddressRange) (a : ℕ) → LiesInOne (xs ++ ys) a → LiesInOne xs a ⊎ LiesInOne ys a
covered_cases [] ys a covered = inr covered
covered_cases (x ∷ xs) ys a (inl here) = inl (inl here)
covered_cases (x ∷ xs) ys a (inr later) = elim (covered_cases xs ys a later) [ inl left ↦ inl (inr left) | inr right ↦ inr right ]

-- An address in a list of one range is in this range.
pub covered_only : (range : AddressRange) (a : ℕ) → LiesInOne (range ∷ []) a → LiesIn range a
covered_only range a (inl here) = here
covered_only range a (inr none) = absurd none

all_rest : {X : Type 0} (P : X → Type 0) (x : X) (xs : List X) → All P (x ∷ xs) → All P xs
all_rest P x xs all = λ k d low. all (suc k) d (omega (arith, low))

-- The owner owns each address in its ranges.
pub covered_owned : (hosts : List Host) (owner : Option ℕ) (ranges : List AddressRange) → All (IsRangeOf hosts owner) ranges → (a : ℕ)
    → LiesInOne ranges a → owner_of hosts a ≡ owner
covered_owned hosts owner [] all a covered = absurd covered
covered_owned hosts owner (x ∷ xs) all a (inl here) = (all 0 x (omega arith)).owned a here
covered_owned hosts owner (x ∷ xs) all a (inr later) = covered_owned hosts owner xs (all_rest (IsRangeOf hosts owner) x xs all) a later

pub ranges_some : (hosts : List Host) (owner : Option ℕ) (ranges : List AddressRange) → All (IsRangeOf hosts owner) ranges → All IsRange ranges
ranges_some hosts owner ranges all = λ k d low. (all k d low).some

pub owned_ranges : (hosts : List Host) (owned : List Owned) → All (IsOwned hosts) owned → All HasRanges owned
owned_ranges hosts owned all = λ k d low. ranges_some hosts (get_or owned k d).owner (get_or owned k d).ranges.items (all k d low).owned

-- 2. The ranges of an owner, in order.

abbrev one_if : Bool → AddressRange → List AddressRange
one_if wanted range = if wanted then range ∷ [] else []

pub more_ranges : (hosts : List Host) (owner : Option ℕ) (old : List AddressRange) (wanted : Bool) (range : AddressRange)
    → All (IsRangeOf hosts owner) old → (wanted ≡ true → IsRangeOf hosts owner range) → All (IsRangeOf hosts owner) (old ++ one_if wanted range)
more_ranges hosts owner old true range all is = All-push (IsRangeOf hosts owner) old range all (is refl)
more_ranges hosts owner old false range all is = subst (All (IsRangeOf hosts owner)) (sym (append-nil old)) all

covered_if : (old : List AddressRange) (wanted : Bool) (range : AddressRange) (a : ℕ) → wanted ≡ true → LiesIn range a
    → LiesInOne (old ++ one_if wanted range) a
covered_if old true range a is lies = covered_right old (range ∷ []) a (inl lies)
covered_if old false range a is lies = let no : ⊥ = cc in absurd no

pub more_covered : (hosts : List Host) (owner host : Option ℕ) (old : List AddressRange) (wanted : Bool) (range : AddressRange)
    → (host ≡ owner → wanted ≡ true) → ((a : ℕ) → range.first ≤ a → a ≤ range.last → owner_of hosts a ≡ host)
    → ((a : ℕ) → a < range.first → owner_of hosts a ≡ owner → LiesInOne old a)
    → (a : ℕ) → a ≤ range.last → owner_of hosts a ≡ owner → LiesInOne (old ++ one_if wanted range) a
more_covered hosts owner host old wanted range is owned before a low of = elim (cases_lt a range.first) [
  | inl earlier ↦ covered_left old (one_if wanted range) a (before a earlier of)
  | inr later ↦ covered_if old wanted range a (is (sym (owned a later low) ∙ of)) (later, low)
]

pub last_all : (last a : ℕ) → last ≡ 4294967295 → a < 2 ^ 32 → a ≤ last
last_all last a is low = omega (arith, is, low)

pub next_small : (last : ℕ) → last ≤ 4294967295 → (last ≡ 4294967295 → ⊥) → last + 1 ≤ 4294967295
next_small last low other = elim (cases_lt last 4294967295) [
  | inl less ↦ omega (arith, less)
  | inr more ↦ let same : last ≡ 4294967295 = omega (arith, more, low) in absurd (other same)
]

-- 3. The owners, in order.

owners_step : (hosts : List Host) (n i : ℕ) → i < length hosts → owners_from n (drop i hosts) ≡ Some n ∷ owners_from (n + 1) (drop (i + 1) hosts)
owners_step [] n i low = absurd (omega (arith, low))
owners_step (h ∷ hs) n zero low = refl
owners_step (h ∷ hs) n (suc i) low =
    let step : suc i + 1 ≡ suc (i + 1) = omega arith in
    owners_step hs n i (omega (arith, low)) ∙ ap (λ (k : ℕ). Some n ∷ owners_from (n + 1) (drop k (h ∷ hs))) (sym step)

owner_names : (old : List Owned) (x : Owned) (rest : List (Option ℕ)) → map (λ y. y.owner) (old ++ x ∷ []) ++ rest ≡ map (λ y. y.owner) old ++ (x.owner ∷ rest)
owner_names [] x rest = refl
owner_names (y ∷ old) x rest = ap (λ (l : List (Option ℕ)). y.owner ∷ l) (owner_names old x rest)

pub owners_more : (hosts : List Host) (old new : List Owned) (i : ℕ) (x : Owned) → map (λ y. y.owner) old ++ owners_from i (drop i hosts) ≡ owners_of hosts
    → i < length hosts → x.owner ≡ Some i → new ≡ old ++ x ∷ [] → map (λ y. y.owner) new ++ owners_from (i + 1) (drop (i + 1) hosts) ≡ owners_of hosts
owners_more hosts old new i x before low is same =
    ap (λ (l : List Owned). map (λ y. y.owner) l ++ owners_from (i + 1) (drop (i + 1) hosts)) same
    ∙ owner_names old x (owners_from (i + 1) (drop (i + 1) hosts))
    ∙ ap (λ (o : Option ℕ). map (λ y. y.owner) old ++ (o ∷ owners_from (i + 1) (drop (i + 1) hosts))) is
    ∙ ap (λ (l : List (Option ℕ)). map (λ y. y.owner) old ++ l) (sym (owners_step hosts i i low)) ∙ before

pub owners_last : (hosts : List Host) (old new : List Owned) (i : ℕ) (x : Owned) → map (λ y. y.owner) old ++ owners_from i (drop i hosts) ≡ owners_of hosts
    → length hosts ≤ i → x.owner ≡ None → new ≡ old ++ x ∷ [] → map (λ y. y.owner) new ≡ owners_of hosts
owners_last hosts old new i x before high is same =
    ap (map (λ y. y.owner)) same ∙ sym (append-nil (map (λ y. y.owner) (old ++ x ∷ []))) ∙ owner_names old x []
    ∙ ap (λ (o : Option ℕ). map (λ y. y.owner) old ++ (o ∷ [])) is
    ∙ ap (λ (l : List Host). map (λ y. y.owner) old ++ owners_from i l) (sym (drop_all i hosts high)) ∙ before
