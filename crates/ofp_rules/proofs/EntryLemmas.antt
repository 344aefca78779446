-- Pairs of entries, by their indices.
use Rattle.std.proofs.Common.{◌≡◌, inl, inr, ℕ, zero, suc, ◌+◌, ◌<◌, ◌≤◌, List, [], ◌∷◌, Some, length, take, get_or, slice_get, refl, sym, ap, ◌∙◌, subst, arith, length-take}
use Rattle.std.proofs.lemmas.Bool.{cases_lt}
use Rattle.std.proofs.lemmas.Option.{slice_get_read, slice_get_within}
use Rattle.ofp_rules.specs.declared.entry.Entry.{Entry}
use Rattle.ofp_rules.specs.declared.table.TableRefusal.{TableRefusal}
use Rattle.ofp_rules.specs.declared.table.TableRefusal.TheVariants.{TooMany, Ambiguous, Memory}
use Rattle.ofp_rules.proofs.AddingLaws.{some_is}
use Rattle.ofp_rules.specs.Ambiguity.{Contradict, most_entries}
use Rattle.ofp_rules.specs.inner.Build.{AreAmbiguous, IsFirstAgainst, IsFirstAmbiguity, IsNotAdded, IsRefused, IsUnambiguous}

pub get_front : (n : ℕ) (xs : List Entry) (i : ℕ) → i < n → slice_get (take n xs) i ≡ slice_get xs i
get_front zero xs i h = absurd (omega arith)
get_front (suc n) [] i h = refl
get_front (suc n) (x ∷ xs) zero h = refl
get_front (suc n) (x ∷ xs) (suc i) h = get_front n xs i (omega arith)

-- If no entry before index i contradicts e, and the entry at index i does not, no entry up to index i contradicts e.
pub not_here : (xs : List Entry) (i : ℕ) (x e : Entry) → i < length xs → x ≡ get_or xs i x → (Contradict x e → ⊥)
    → (j : ℕ) (f : Entry) → ((k : ℕ) (g : Entry) → k < i → slice_get xs k ≡ Some g → Contradict g e → ⊥) → j < i + 1 → slice_get xs j ≡ Some f → Contradict f e → ⊥
not_here xs i x e within is none j f before below there clash = elim (cases_lt j i) [
  | inl earlier ↦ before j f earlier there clash
  | inr late ↦
      let here : j ≡ i = omega arith in
      let read : slice_get xs i ≡ Some x = slice_get_read xs (length xs) i x refl within is in
      let same : f ≡ x = some_is (slice_get xs i) f x (ap (slice_get xs) (sym here) ∙ there) read in
      none (subst (λ (g : Entry). Contradict g e) same clash)
]

-- The entry at index j, and the entries before it.
module _ (xs : List Entry) (j : ℕ) (x : Entry) (within : j < length xs) (is : x ≡ get_or xs j x) where
  second_is : (i : ℕ) (pair : AreAmbiguous xs i j) → Contradict pair.first x
  second_is i pair =
      let read : slice_get xs j ≡ Some x = slice_get_read xs (length xs) j x refl within is in
      subst (λ (g : Entry). Contradict pair.first g) (some_is (slice_get xs j) pair.second x pair.at_second read) pair.contradict

  in_front : (i : ℕ) (pair : AreAmbiguous xs i j) → slice_get (take j xs) i ≡ Some pair.first
  in_front i pair = let earlier = pair.earlier in get_front j xs i (omega arith) ∙ pair.at_first

  -- The first entry that contradicts x forms the first ambiguous pair with it.
  pub first_pair : (i : ℕ) (f : Entry) → i < j → slice_get (take j xs) i ≡ Some f → Contradict f x
      → ((k : ℕ) (g : Entry) → k < i → slice_get (take j xs) k ≡ Some g → Contradict g x → ⊥)
      → ((k l : ℕ) → l < j → AreAmbiguous xs k l → ⊥) → IsFirstAmbiguity xs i j
  first_pair i f earlier there clash first before = record {
    ambiguous = record {
      first = f;
      second = x;
      at_first = sym (get_front j xs i earlier) ∙ there;
      at_second = slice_get_read xs (length xs) j x refl within is;
      earlier = earlier;
      contradict = clash;
    };
    least_second = λ k l pair. elim (cases_lt l j) [ inl lower ↦ absurd (before k l lower pair) | inr ok ↦ ok ];
    least_first = λ k pair. elim (cases_lt k i) [ inl lower ↦ absurd (first k pair.first lower (in_front k pair) (second_is k pair)) | inr ok ↦ ok ];
  }

-- The first entry that contradicts another entry.
pub first_against_is : (entries : List Entry) (e : Entry) (i : ℕ) (f : Entry) → slice_get entries i ≡ Some f → Contradict f e
    → ((j : ℕ) (g : Entry) → j < i → slice_get entries j ≡ Some g → Contradict g e → ⊥) → IsFirstAgainst entries e i
first_against_is entries e i f there clash first = record {
  first = f;
  at_first = there;
  contradict = clash;
  least = λ k g at_k by_k. elim (cases_lt k i) [ inl lower ↦ absurd (first k g lower at_k by_k) | inr ok ↦ ok ];
}

-- An ambiguous pair within the first n entries.
in_first : (n : ℕ) (xs : List Entry) (i j : ℕ) → j < n → AreAmbiguous xs i j → AreAmbiguous (take n xs) i j
in_first n xs i j below pair =
    let earlier = pair.earlier in
    record {
      first = pair.first;
      second = pair.second;
      at_first = get_front n xs i (omega arith) ∙ pair.at_first;
      at_second = get_front n xs j below ∙ pair.at_second;
      earlier = pair.earlier;
      contradict = pair.contradict;
    }

-- The refusal of an entry after the first entries is the refusal of the whole list.
pub refused_by : (entries : List Entry) (i : ℕ) (x : Entry) (why : TableRefusal) → i < length entries
    → length entries ≤ most_entries → x ≡ get_or entries i x
    → IsUnambiguous (take i entries) → IsNotAdded (take i entries) x why → IsRefused entries why
refused_by entries i x (TooMany count) within few is clear refused = absurd (omega (arith, refused.0, length-take i entries))
refused_by entries i x (Ambiguous first second) within few is clear refused =
    let against = refused.1 in
    let place : second ≡ i = omega (arith, refused.2, length-take i entries) in
    let below = slice_get_within (take i entries) first against.first against.at_first in (
      few,
      subst (IsFirstAmbiguity entries first) (sym place)
          (first_pair entries i x within is first against.first (omega (arith, length-take i entries)) against.at_first against.contradict
          (λ k g lower there clash. let least = against.least k g there clash in omega arith)
          (λ k l lower pair. clear k l (in_first i entries k l lower pair))),
    )
refused_by entries i x Memory within few is clear refused = tt
