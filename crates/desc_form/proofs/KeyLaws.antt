-- The tests of a key are equivalent to facts about its value.
use Rattle.std.proofs.Common.{◌≡◌, ℕ, ℤ, pos, Bool, true, false, not, ◌||◌, List, [], ◌∷◌, Option, Some, None, Ordering, Less, Equal, Greater, nat_cmp, refl, ap, ◌∙◌, sym, subst}
use Rattle.std.proofs.lemmas.Bool.{and_parts, false≢true}
use Rattle.std.proofs.lemmas.Map.Lookups.{exact_bytes}
use Rattle.std.proofs.lemmas.Slice.Eq.{bytes_eq-Decides}
use Rattle.std.specs.Prelude.{codes, is_none, filter_map, if◌then◌else◌, is_some, unwrap_or, option_and_then, IsSomeAnd, MatchOption}
use Rattle.std.specs.Cmp.Lexicographic.{slice_cmp}
use Rattle.std.specs.List.{AllZip, list_all, list_any}
use Rattle.std.specs.Option.{option_map_or}
use Rattle.std.specs.Ordering.{match_ordering}
use Rattle.std.specs.Str.{bytes_eq}
use Rattle.toml.specs.Data.{Data, string, integer, boolean, array, Members, no_members, member, as_bool, as_integer, as_str, get_member}
use Rattle.desc_form.specs.inner.RawForm.{IsAnswers, IsArray, IsBoolean, IsInteger, IsText}
use Rattle.table_core.specs.Keys.{is_one_of, is_text}
use Rattle.table_core.specs.Tables.{all_keys, elements, elements_of, has_only, keys_in}

-- The facts about the value that the tests of a key imply.
pub text_stands : (o : Option Data) → is_some o ≡ true → (not (is_some o) || is_some (option_and_then as_str o)) ≡ true
    → IsSomeAnd o (λ d. IsText d (unwrap_or (option_and_then as_str o) []))
text_stands None there suits = cc
text_stands (Some (string s)) there suits = refl
text_stands (Some _) there suits = cc

pub integer_stands : (o : Option Data) → is_some o ≡ true → (not (is_some o) || is_some (option_and_then as_integer o)) ≡ true
    → IsSomeAnd o (λ d. IsInteger d (unwrap_or (option_and_then as_integer o) (pos 0)))
integer_stands None there suits = cc
integer_stands (Some (integer n)) there suits = refl
integer_stands (Some _) there suits = cc

pub boolean_stands : (o : Option Data) → (not (is_some o) || is_some (option_and_then as_bool o)) ≡ true
    → MatchOption o (unwrap_or (option_and_then as_bool o) false ≡ false) (λ d. IsBoolean d (unwrap_or (option_and_then as_bool o) false))
boolean_stands None suits = refl
boolean_stands (Some (boolean b)) suits = refl
boolean_stands (Some _) suits = cc

-- The two words for answers.
abbrev pub is_answers : List ℕ → Bool
is_answers word = is_one_of (codes "all" ∷ codes "none" ∷ []) word

first_of_two : (a b : Bool) → b ≡ false → (a || (b || false)) ≡ true → a ≡ true
first_of_two true b is_false either = refl
first_of_two false b is_false either = cc

-- A word that is one of the two but not the second is the first.
answers_word : (s : List ℕ) (b : Bool) → bytes_eq s (codes "none") ≡ b → is_answers s ≡ true
    → s ≡ (if not b then codes "all" else codes "none")
answers_word s true is_none suits = (bytes_eq-Decides s (codes "none")).0 is_none
answers_word s false is_none suits =
    (bytes_eq-Decides s (codes "all")).0 (first_of_two (bytes_eq s (codes "all")) (bytes_eq s (codes "none")) is_none suits)

pub answers_stand : (o : Option Data) → (not (is_some o) || option_map_or is_answers (option_and_then as_str o) false) ≡ true
    → let answers = not (bytes_eq (unwrap_or (option_and_then as_str o) []) (codes "none")) in MatchOption o (answers ≡ true) (λ d. IsAnswers d answers)
answers_stand None suits = refl
answers_stand (Some (string s)) suits = ap string (answers_word s (bytes_eq s (codes "none")) refl suits)
answers_stand (Some _) suits = cc

pub nothing_zipped : {A : Type 0} (Is : Data → A → Type 0) (xs : List A) → AllZip Is [] xs → xs ≡ []
nothing_zipped Is [] zipped = refl
nothing_zipped Is (x ∷ xs) zipped = absurd zipped

pub array_stands : {A : Type 0} (Is : Data → A → Type 0) (o : Option Data) (xs : List A) → is_some o ≡ true
    → (not (is_some o) || is_some (option_and_then elements_of o)) ≡ true
    → AllZip Is (unwrap_or (option_and_then elements_of o) []) xs → IsSomeAnd o (λ d. IsArray Is d xs)
unfolding elements_of
array_stands Is None xs there suits zipped = cc
array_stands Is (Some (array ds)) xs there suits zipped = (ds, refl, zipped)
array_stands Is (Some _) xs there suits zipped = cc

pub array_stands_or : {A : Type 0} (Is : Data → A → Type 0) (o : Option Data) (xs : List A)
    → (not (is_some o) || is_some (option_and_then elements_of o)) ≡ true
    → AllZip Is (unwrap_or (option_and_then elements_of o) []) xs → MatchOption o (xs ≡ []) (λ d. IsArray Is d xs)
array_stands_or Is None xs suits zipped = nothing_zipped Is xs zipped
array_stands_or Is (Some d) xs suits zipped = array_stands Is (Some d) xs refl suits zipped

all_texts : (ds : List Data) → list_all is_text ds ≡ true → AllZip IsText ds (filter_map as_str ds)
all_texts [] suits = tt
all_texts (string s ∷ ds) suits = (refl, all_texts ds suits)
all_texts (_ ∷ ds) suits = cc

pub texts_stand_or : (o : Option Data) → (not (is_some o) || option_map_or (list_all is_text) (option_and_then elements_of o) false) ≡ true
    → let texts = filter_map as_str (unwrap_or (option_and_then elements_of o) []) in MatchOption o (texts ≡ []) (λ d. IsArray IsText d texts)
unfolding elements_of
texts_stand_or None suits = refl
texts_stand_or (Some (array ds)) suits = (ds, refl, all_texts (elements ds) suits)
texts_stand_or (Some _) suits = cc

-- A required value is present.
pub there : (P : Type 0) (Q : Data → Type 0) (o : Option Data) → is_some o ≡ true → MatchOption o P Q → IsSomeAnd o Q
there P Q None is stands = cc
there P Q (Some d) is stands = stands

pub there_or : (P : Type 0) (Q : Data → Type 0) (o : Option Data) → IsSomeAnd o Q → MatchOption o P Q
there_or P Q None stands = absurd stands
there_or P Q (Some d) stands = stands

pub some_there : (Q : Data → Type 0) (o : Option Data) → IsSomeAnd o Q → is_some o ≡ true
some_there Q None stands = absurd stands
some_there Q (Some d) stands = refl

-- A key that is not among the keys of the table has no value.
pub absent_by : (o : Ordering) (keys : List (List ℕ)) (key l : List ℕ) (d : Data) (ms : Members) → slice_cmp nat_cmp key l ≡ o
    → list_any (bytes_eq key) keys ≡ false → list_any (bytes_eq l) keys ≡ true → get_member key ms ≡ None
    → match_ordering o (get_member key ms) (Some d) (get_member key ms) ≡ None
absent_by Less keys key l d ms order out here behind = behind
absent_by Greater keys key l d ms order out here behind = behind
absent_by Equal keys key l d ms order out here behind =
    absurd (false≢true (sym out ∙ ap (λ k. list_any (bytes_eq k) keys) (exact_bytes key l order) ∙ here))

absent_in : (keys : List (List ℕ)) (key : List ℕ) (ms : Members) → list_any (bytes_eq key) keys ≡ false
    → all_keys (λ k. list_any (bytes_eq k) keys) ms ≡ true → get_member key ms ≡ None
absent_in keys key no_members out only = refl
absent_in keys key (member l d ms) out only =
    let (here, behind) = and_parts (list_any (bytes_eq l) keys) (list_all (λ k. list_any (bytes_eq k) keys) (keys_in ms)) only in
    absent_by (slice_cmp nat_cmp key l) keys key l d ms refl out here (absent_in keys key ms out behind)

pub absent : (keys : List (List ℕ)) (key : List ℕ) (ms : Members) → list_any (bytes_eq key) keys ≡ false → has_only keys ms ≡ true
    → get_member key ms ≡ None
unfolding has_only
absent keys key ms out only = absent_in keys key ms out only

-- Conversely, a valid value of a key passes its tests.
pub text_suits : (o : Option Data) (x : List ℕ) → IsSomeAnd o (λ d. IsText d x)
    → (is_some o ≡ true) × ((not (is_some o) || is_some (option_and_then as_str o)) ≡ true)
text_suits None x stands = absurd stands
text_suits (Some d) x stands = rw stands (refl, refl)

pub integer_suits : (o : Option Data) (x : ℤ) → IsSomeAnd o (λ d. IsInteger d x)
    → (is_some o ≡ true) × ((not (is_some o) || is_some (option_and_then as_integer o)) ≡ true)
integer_suits None x stands = absurd stands
integer_suits (Some d) x stands = rw stands (refl, refl)

pub boolean_suits : (o : Option Data) (x : Bool) → MatchOption o (x ≡ false) (λ d. IsBoolean d x)
    → (not (is_some o) || is_some (option_and_then as_bool o)) ≡ true
boolean_suits None x stands = refl
boolean_suits (Some d) x stands = rw stands refl

word_suits : (b : Bool) → is_answers (if b then codes "all" else codes "none") ≡ true
word_suits true = refl
word_suits false = refl

pub answers_suit : (o : Option Data) (x : Bool) → MatchOption o (x ≡ true) (λ d. IsAnswers d x)
    → (not (is_some o) || option_map_or is_answers (option_and_then as_str o) false) ≡ true
answers_suit None x stands = refl
answers_suit (Some d) x stands = rw stands (word_suits x)

pub array_suits : {A : Type 0} (Is : Data → A → Type 0) (o : Option Data) (xs : List A) → MatchOption o (xs ≡ []) (λ d. IsArray Is d xs)
    → (not (is_some o) || is_some (option_and_then elements_of o)) ≡ true
unfolding elements_of
array_suits Is None xs stands = refl
array_suits Is (Some d) xs (ds, is_array, zipped) = rw is_array refl

-- Its elements correspond to the list.
pub array_zips : {A : Type 0} (Is : Data → A → Type 0) (o : Option Data) (xs : List A) → MatchOption o (xs ≡ []) (λ d. IsArray Is d xs)
    → AllZip Is (unwrap_or (option_and_then elements_of o) []) xs
unfolding elements_of
array_zips Is None xs none = subst (AllZip Is []) (sym none) tt
array_zips Is (Some d) xs (ds, is_array, zipped) = subst (λ (e : Data). AllZip Is (unwrap_or (elements_of e) []) xs) (sym is_array) zipped

pub array_needed : {A : Type 0} (Is : Data → A → Type 0) (o : Option Data) (xs : List A) → IsSomeAnd o (λ d. IsArray Is d xs)
    → (is_some o ≡ true) × MatchOption o (xs ≡ []) (λ d. IsArray Is d xs)
array_needed Is None xs stands = absurd stands
array_needed Is (Some d) xs stands = (refl, stands)

all_are_texts : (ds : List Data) (xs : List (List ℕ)) → AllZip IsText ds xs → list_all is_text ds ≡ true
all_are_texts [] [] zipped = refl
all_are_texts [] (x ∷ xs) zipped = refl
all_are_texts (d ∷ ds) [] zipped = absurd zipped
all_are_texts (d ∷ ds) (x ∷ xs) (is_string, zipped) = rw is_string (all_are_texts ds xs zipped)

pub texts_suit : (o : Option Data) (xs : List (List ℕ)) → MatchOption o (xs ≡ []) (λ d. IsArray IsText d xs)
    → (not (is_some o) || option_map_or (list_all is_text) (option_and_then elements_of o) false) ≡ true
unfolding elements_of
texts_suit None xs stands = refl
texts_suit (Some d) xs (ds, is_array, zipped) = rw is_array (all_are_texts (elements ds) xs zipped)
