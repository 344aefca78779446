-- Entries are accepted with one more entry if they are accepted, are below the limit, and do not contradict the new entry.
use Rattle.std.proofs.Common.{◌≡◌, inl, inr, ℕ, zero, suc, ◌<◌, List, [], ◌∷◌, ◌++◌, Option, Some, length, slice_get, refl, sym, ap, ◌∙◌, subst, arith, length-append}
use Rattle.std.proofs.lemmas.Bool.{cases_lt}
use Rattle.std.proofs.lemmas.Option.{slice_get_within}
use Rattle.ofp_rules.specs.declared.entry.Entry.{Entry}
use Rattle.ofp_rules.specs.inner.Build.{AreAmbiguous, IsUnambiguous, IsAccepted}
use Rattle.ofp_rules.specs.Ambiguity.{Contradict, ContradictsNone, most_entries}

pub get_before : {A : Type 0} (xs ys : List A) (i : ℕ) → i < length xs → slice_get (xs ++ ys) i ≡ slice_get xs i
get_before [] ys i h = absurd (omega arith)
get_before (x ∷ xs) ys zero h = refl
get_before (x ∷ xs) ys (suc i) h = get_before xs ys i (omega arith)

pub get_last : {A : Type 0} (xs : List A) (x : A) → slice_get (xs ++ x ∷ []) (length xs) ≡ Some x
get_last [] x = refl
get_last (y ∷ xs) x = get_last xs x

pub some_is : {A : Type 0} (o : Option A) (x y : A) → o ≡ Some x → o ≡ Some y → x ≡ y
some_is o x y first second = cc

-- An ambiguous pair before the new entry.
old_pair : (entries : List Entry) (e : Entry) (i j : ℕ) → j < length entries → AreAmbiguous (entries ++ e ∷ []) i j
    → AreAmbiguous entries i j
old_pair entries e i j below pair =
    let earlier = pair.earlier in
    record {
      first = pair.first;
      second = pair.second;
      at_first = sym (get_before entries (e ∷ []) i (omega arith)) ∙ pair.at_first;
      at_second = sym (get_before entries (e ∷ []) j below) ∙ pair.at_second;
      earlier = pair.earlier;
      contradict = pair.contradict;
    }

-- There is no ambiguous pair with the new entry.
new_pair : (entries : List Entry) (e : Entry) (i j : ℕ) → ContradictsNone entries e → j ≡ length entries
    → AreAmbiguous (entries ++ e ∷ []) i j → ⊥
new_pair entries e i j none last pair =
    let earlier = pair.earlier in
    let here : slice_get (entries ++ e ∷ []) j ≡ Some e = ap (slice_get (entries ++ e ∷ [])) last ∙ get_last entries e in
    let is : pair.second ≡ e = some_is (slice_get (entries ++ e ∷ []) j) pair.second e pair.at_second here in
    none i pair.first (sym (get_before entries (e ∷ []) i (omega arith)) ∙ pair.at_first) (subst (Contradict pair.first) is pair.contradict)

pub unambiguous_more : (entries : List Entry) (e : Entry) → IsUnambiguous entries → ContradictsNone entries e
    → IsUnambiguous (entries ++ e ∷ [])
unambiguous_more entries e clear none i j pair = elim (cases_lt j (length entries)) [
  | inl below ↦ clear i j (old_pair entries e i j below pair)
  | inr above ↦
      let within = slice_get_within (entries ++ e ∷ []) j pair.second pair.at_second in
      new_pair entries e i j none (omega (arith, simp length-append at within)) pair
]

pub accepted_more : (entries : List Entry) (e : Entry) → IsAccepted entries → length entries < most_entries → ContradictsNone entries e
    → IsAccepted (entries ++ e ∷ [])
accepted_more entries e accepted few none = (simp length-append (omega arith), unambiguous_more entries e accepted.1 none)

-- The converse: if the list with the new entry is unambiguous, no entry contradicts the new entry.
pub contradicts_none : (entries : List Entry) (e : Entry) → IsUnambiguous (entries ++ e ∷ []) → ContradictsNone entries e
contradicts_none entries e clear i f there clash =
    let within = slice_get_within entries i f there in
    clear i (length entries) (record {
      first = f;
      second = e;
      at_first = get_before entries (e ∷ []) i within ∙ there;
      at_second = get_last entries e;
      earlier = within;
      contradict = clash;
    })

pub fewer_than_most : (entries : List Entry) (e : Entry) → IsAccepted (entries ++ e ∷ []) → length entries < most_entries
fewer_than_most entries e accepted = let few = accepted.0 in omega (arith, simp length-append at few)
