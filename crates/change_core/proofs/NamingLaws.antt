-- Laws of owners under two descriptions: the addresses of their ranges, and their order.
use Rattle.std.proofs.Common.{◌≡◌, ◌↔◌, inl, inr, ℕ, zero, suc, ◌+◌, ◌<◌, ◌≤◌, Bool, true, false, if◌then◌else◌, List, [], ◌∷◌, ◌++◌, Option, Some, None, length, map, refl, sym, ap, subst, ◌∙◌, arith, append-nil}
use Rattle.std.proofs.lemmas.Bool.{cases_lt}
use Rattle.std.proofs.lemmas.Bool.Decides.{nat_tests}
use Rattle.std.specs.List.{All, Contains}
use Rattle.std.proofs.lemmas.List.Elements.{All-head, All-push, All-tail, All-weaker}
use Rattle.host_net.specs.Host.{Host, owner_of}
use Rattle.host_net.specs.declared.packet.Packet.{Packet}
use Rattle.header_space.specs.declared.address_range.AddressRange.{AddressRange}
use Rattle.header_space.specs.declared.owners.Owned.{Owned}
use Rattle.header_space.specs.Owners.{GoesBetween, HasRanges, LiesIn, LiesInOne, owners_from, owners_of}
use Rattle.header_space.proofs.OwnersLaws.{covered_left, covered_right}
use Rattle.change_core.specs.declared.named_owner.NamedOwner.{NamedOwner}
use Rattle.change_core.specs.declared.named_owner.NamedOwner.TheVariants.{New, Old, Nobody}
use Rattle.change_core.specs.Names.{IsOfNames, all_names, name_from, named_owner, new_names_from, old_names_from}
use Rattle.policy_space.proofs.FlowLaws.{owner_below}
use Rattle.change_core.specs.inner.Naming.{AreAscending, HaveNamed, IsNamed, IsRangeNamed, name_in, name_of}
use Rattle.change_core.proofs.ListLaws.{contains_first, contains_later}

-- 1. The ranges of an owner, one after another.

abbrev one_if : Bool → AddressRange → List AddressRange
one_if wanted range = if wanted then range ∷ [] else []

more_ranges : (new old : List Host) (owner : NamedOwner) (ranges : List AddressRange) (wanted : Bool) (range : AddressRange)
    → All (IsRangeNamed new old owner) ranges → (wanted ≡ true → IsRangeNamed new old owner range)
    → All (IsRangeNamed new old owner) (ranges ++ one_if wanted range)
more_ranges new old owner ranges true range all is = All-push (IsRangeNamed new old owner) ranges range all (is refl)
more_ranges new old owner ranges false range all is = subst (All (IsRangeNamed new old owner)) (sym (append-nil ranges)) all

covered_if : (ranges : List AddressRange) (wanted : Bool) (range : AddressRange) (a : ℕ) → wanted ≡ true → LiesIn range a
    → LiesInOne (ranges ++ one_if wanted range) a
covered_if ranges true range a is lies = covered_right ranges (range ∷ []) a (inl lies)
covered_if ranges false range a is lies = let no : ⊥ = cc in absurd no

ascending_push : (ranges : List AddressRange) (range : AddressRange) → AreAscending ranges → All (λ r. r.last < range.first) ranges
    → AreAscending (ranges ++ range ∷ [])
ascending_push [] range ascending below = (tt, tt)
ascending_push (x ∷ []) range ascending below = (All-head (λ r. r.last < range.first) x [] below, (tt, tt))
ascending_push (x ∷ y ∷ ys) range ascending below =
    (ascending.0, ascending_push (y ∷ ys) range ascending.1 (All-tail (λ r. r.last < range.first) x (y ∷ ys) below))

ascending_if : (ranges : List AddressRange) (wanted : Bool) (range : AddressRange) → AreAscending ranges → All (λ r. r.last < range.first) ranges
    → AreAscending (ranges ++ one_if wanted range)
ascending_if ranges true range ascending below = ascending_push ranges range ascending below
ascending_if ranges false range ascending below = subst AreAscending (sym (append-nil ranges)) ascending

below_if : (ranges : List AddressRange) (wanted : Bool) (range : AddressRange) → range.first ≤ range.last → All (λ r. r.last < range.first) ranges
    → All (λ r. r.last < range.last + 1) (ranges ++ one_if wanted range)
below_if ranges wanted range some below = by_wanted wanted
  where
    earlier : All (λ r. r.last < range.last + 1) ranges
    earlier = All-weaker (λ r. r.last < range.first) (λ r. r.last < range.last + 1) (λ r low. omega (arith, low, some)) ranges below

    by_wanted : (b : Bool) → All (λ r. r.last < range.last + 1) (ranges ++ one_if b range)
    by_wanted true = All-push (λ r. r.last < range.last + 1) ranges range earlier (omega arith)
    by_wanted false = subst (All (λ r. r.last < range.last + 1)) (sym (append-nil ranges)) earlier

-- The ranges contain the addresses of the owner below `end`.
pub record AreUpTo (new old : List Host) (owner : NamedOwner) (ranges : List AddressRange) (end : ℕ) : Type 0 where
  pub owned : All (IsRangeNamed new old owner) ranges
  pub covered : (a : ℕ) → a < end → named_owner new old a ≡ owner → LiesInOne ranges a
  pub ascending : AreAscending ranges
  pub below : All (λ r. r.last < end) ranges

pub ranges_step : (new old : List Host) (owner held : NamedOwner) (ranges more : List AddressRange) (wanted : Bool) (range : AddressRange)
    → AreUpTo new old owner ranges range.first → range.first ≤ range.last
    → ((a : ℕ) → range.first ≤ a → a ≤ range.last → named_owner new old a ≡ held)
    → (wanted ≡ true → held ≡ owner) → (held ≡ owner → wanted ≡ true) → more ≡ ranges ++ one_if wanted range
    → AreUpTo new old owner more (range.last + 1)
ranges_step new old owner held ranges more wanted range before some all when_wanted only is = record {
  owned = subst (All (IsRangeNamed new old owner)) (sym is)
      (more_ranges new old owner ranges wanted range before.owned (λ on. record { some = some; owned = λ a lies. all a lies.0 lies.1 ∙ when_wanted on }));
  covered = λ a low of. subst (λ (l : List AddressRange). LiesInOne l a) (sym is) (within a low of);
  ascending = subst AreAscending (sym is) (ascending_if ranges wanted range before.ascending before.below);
  below = subst (All (λ r. r.last < range.last + 1)) (sym is) (below_if ranges wanted range some before.below);
}
  where
    within : (a : ℕ) → a < range.last + 1 → named_owner new old a ≡ owner → LiesInOne (ranges ++ one_if wanted range) a
    within a low of = elim (cases_lt a range.first) [
      | inl earlier ↦ covered_left ranges (one_if wanted range) a (before.covered a earlier of)
      | inr later ↦
          let end : a ≤ range.last = omega (arith, low) in
          covered_if ranges wanted range a (only (sym (all a later end) ∙ of)) (later, end)
    ]

pub ranges_all : (new old : List Host) (owner : NamedOwner) (ranges : List AddressRange) (last : ℕ) → last ≡ 4294967295
    → AreUpTo new old owner ranges (last + 1) → HaveNamed new old owner ranges
ranges_all new old owner ranges last is all = record {
  owned = all.owned;
  covered = λ a low of. all.covered a (omega (arith, is, low)) of;
  ascending = all.ascending;
}

pub named_ranges : (new old : List Host) (owned : List Owned) → All (IsNamed new old) owned → All HasRanges owned
named_ranges new old owned all = λ k d low j e small. ((all k d low).owned j e small).some

-- 2. The owners by number.

name_new : (n i : ℕ) → i < n → name_of n (Some i) ≡ New i
name_new n i low = grind (arith, nat_tests)

name_old : (n i j : ℕ) → i ≡ n + j → name_of n (Some i) ≡ Old j
name_old n i j is = grind (arith, nat_tests)

old_numbers : (n i j : ℕ) (old : List Host) → i ≡ n + j → map (name_of n) (owners_from i old) ≡ old_names_from j old
old_numbers n i j [] is = refl
old_numbers n i j (h ∷ hs) is =
    ap (λ (x : NamedOwner). x ∷ map (name_of n) (owners_from (i + 1) hs)) (name_old n i j is)
    ∙ ap (λ (l : List NamedOwner). Old j ∷ l) (old_numbers n (i + 1) (j + 1) hs (omega (arith, is)))

new_numbers : (n i : ℕ) (new old : List Host) → n ≡ i + length new → map (name_of n) (owners_from i (new ++ old)) ≡ new_names_from i new old
new_numbers n i [] old is = old_numbers n i 0 old (omega (arith, is))
new_numbers n i (h ∷ hs) old is =
    ap (λ (x : NamedOwner). x ∷ map (name_of n) (owners_from (i + 1) (hs ++ old))) (name_new n i (omega (arith, is)))
    ∙ ap (λ (l : List NamedOwner). New i ∷ l) (new_numbers n (i + 1) hs old (omega (arith, is)))

names_in : (new : List Host) (owned : List Owned) → map (name_in new) owned ≡ map (name_of (length new)) (map (λ x. x.owner) owned)
names_in new [] = refl
names_in new (x ∷ xs) = ap (λ (l : List NamedOwner). name_in new x ∷ l) (names_in new xs)

pub names_are : (new old : List Host) (owned : List Owned) → map (λ x. x.owner) owned ≡ owners_of (new ++ old) → map (name_in new) owned ≡ all_names new old
names_are new old owned is =
    names_in new owned ∙ ap (map (name_of (length new))) is ∙ new_numbers (length new) 0 new old (omega arith)

-- 3. The list has the owner of each address.

nobody_after : (j : ℕ) (old : List Host) → Contains (old_names_from j old) Nobody
nobody_after j [] = contains_first Nobody [] Nobody refl
nobody_after j (h ∷ hs) = contains_later (Old j) (old_names_from (j + 1) hs) Nobody (nobody_after (j + 1) hs)

old_after : (j : ℕ) (old : List Host) (k n : ℕ) → k < length old → n ≡ j + k → Contains (old_names_from j old) (Old n)
old_after j [] k n low is = absurd (omega (arith, low))
old_after j (h ∷ hs) zero n low is =
    contains_first (Old j) (old_names_from (j + 1) hs) (Old n) (let same : j ≡ n = omega (arith, is) in ap (λ (x : ℕ). Old x) same)
old_after j (h ∷ hs) (suc k) n low is =
    contains_later (Old j) (old_names_from (j + 1) hs) (Old n) (old_after (j + 1) hs k n (omega (arith, low)) (omega (arith, is)))

new_after : (i : ℕ) (new old : List Host) (k n : ℕ) → k < length new → n ≡ i + k → Contains (new_names_from i new old) (New n)
new_after i [] old k n low is = absurd (omega (arith, low))
new_after i (h ∷ hs) old zero n low is =
    contains_first (New i) (new_names_from (i + 1) hs old) (New n) (let same : i ≡ n = omega (arith, is) in ap (λ (x : ℕ). New x) same)
new_after i (h ∷ hs) old (suc k) n low is =
    contains_later (New i) (new_names_from (i + 1) hs old) (New n) (new_after (i + 1) hs old k n (omega (arith, low)) (omega (arith, is)))

after_new : (i : ℕ) (new old : List Host) (x : NamedOwner) → Contains (old_names_from 0 old) x → Contains (new_names_from i new old) x
after_new i [] old x there = there
after_new i (h ∷ hs) old x there = contains_later (New i) (new_names_from (i + 1) hs old) x (after_new (i + 1) hs old x there)

pub name_among : (new old : List Host) (a : ℕ) → Contains (all_names new old) (named_owner new old a)
name_among new old a = by_owners (owner_of new a) (owner_of old a) refl refl
  where
    by_owners : (n o : Option ℕ) → owner_of new a ≡ n → owner_of old a ≡ o → Contains (all_names new old) (name_from n o)
    by_owners (Some i) o is other = new_after 0 new old i i (owner_below new a i is) (omega arith)
    by_owners None (Some j) is other = after_new 0 new old (Old j) (old_after 0 old j j (owner_below old a j other) (omega arith))
    by_owners None None is other = after_new 0 new old Nobody (nobody_after 0 old)

-- 4. Packets between their ranges.

covered_named : (new old : List Host) (owner : NamedOwner) (ranges : List AddressRange) → All (IsRangeNamed new old owner) ranges → (a : ℕ)
    → LiesInOne ranges a → named_owner new old a ≡ owner
covered_named new old owner [] all a covered = absurd covered
covered_named new old owner (x ∷ xs) all a (inl here) = (All-head (IsRangeNamed new old owner) x xs all).owned a here
covered_named new old owner (x ∷ xs) all a (inr later) = covered_named new old owner xs (All-tail (IsRangeNamed new old owner) x xs all) a later

pub between_named : (new old : List Host) (from to : Owned) → IsNamed new old from → IsNamed new old to → (p : Packet)
    → (GoesBetween from.ranges.items to.ranges.items p ↔ IsOfNames new old (name_in new from) (name_in new to) p)
between_named new old from to source destination p = (
  (λ goes. record {
    packet = goes.packet;
    src = covered_named new old (name_in new from) from.ranges.items source.owned p.src goes.src;
    dst = covered_named new old (name_in new to) to.ranges.items destination.owned p.dst goes.dst;
  }),
  (λ of. record {
    packet = of.packet;
    src = source.covered p.src of.packet.0 of.src;
    dst = destination.covered p.dst of.packet.1 of.dst;
  }),
)
