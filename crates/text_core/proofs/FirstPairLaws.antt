-- Lemmas on the first conflict: it agrees with its definition, and the first conflict of mapped elements is the image of the first conflict
-- of the elements.
use Rattle.std.proofs.Common.{◌≡◌, ℕ, ◌+◌, Bool, true, false, cond, not, List, [], ◌∷◌, ◌++◌, map, Option, Some, None, option_map, refl, sym, ap, subst, ◌∙◌, append_assoc}
use Rattle.std.proofs.lemmas.List.{map-append}
use Rattle.std.specs.List.{find, list_all}
use Rattle.std.specs.Prelude.{IfSome}
use Rattle.std.specs.Option.{option_or}
use Rattle.text_core.specs.FirstMatch.{first_conflict, first_conflict_after, Numbered, Conflict, numbered, numbered_from}
use Rattle.text_core.specs.inner.Pairs.{IsFirstConflict, no_pair}
use Rattle.text_core.proofs.FirstsLaws.{no_pair_numbered, none_barred, none_found, some_same}
use Rattle.text_core.proofs.ConflictLaws.{no_pair-push}

-- A conflict of mapped elements is the image of a conflict of the elements.
abbrev pub pair_made : {A B : Type 0} → (A → B) → Conflict A → Conflict B
pair_made f p = record { later = f p.later; earlier = f p.earlier }

abbrev pub numbered_made : {A B : Type 0} → (A → B) → Numbered A → Numbered B
numbered_made f n = record { number = n.number; what = f n.what }

find_by : {A B : Type 0} (f : A → B) (b : Bool) (x : A) (o : Option A) (u : Option B) → u ≡ option_map f o → cond b (Some (f x)) u ≡ option_map f (cond b (Some x) o)
find_by f true x o u h = refl
find_by f false x o u h = h

find-map : {A B : Type 0} (p : B → Bool) (f : A → B) (xs : List A) → find p (map f xs) ≡ option_map f (find (λ x. p (f x)) xs)
find-map p f [] = refl
find-map p f (x ∷ xs) = find_by f (p (f x)) x (find (λ y. p (f y)) xs) (find p (map f xs)) (find-map p f xs)

pair_by : {A B : Type 0} (f : A → B) (x : A) (o : Option A) (u : Option (Conflict A))
    → option_or (option_map (λ y. record { later = f x; earlier = y }) (option_map f o)) (option_map (pair_made f) u)
    ≡ option_map (pair_made f) (option_or (option_map (λ y. record { later = x; earlier = y }) o) u)
pair_by f x None u = refl
pair_by f x (Some y) u = refl

first_conflict_after-map : {A B : Type 0} (conflicts : B → B → Bool) (f : A → B) (before xs : List A)
    → first_conflict_after conflicts (map f before) (map f xs) ≡ option_map (pair_made f) (first_conflict_after (λ x y. conflicts (f x) (f y)) before xs)
first_conflict_after-map conflicts f before [] = refl
first_conflict_after-map {A} {B} conflicts f before (x ∷ xs) =
    (λ i. option_or (option_map (λ (y : B). record { later = f x; earlier = y }) (find-map (conflicts (f x)) f before i))
    (first_conflict_after conflicts (sym (map-append f before (x ∷ [])) i) (map f xs)))
    ∙ ap (option_or (option_map (λ (y : B). record { later = f x; earlier = y }) (option_map f (find (λ y. conflicts (f x) (f y)) before)))) (first_conflict_after-map conflicts f (before ++ x ∷ []) xs)
    ∙ pair_by f x (find (λ y. conflicts (f x) (f y)) before) (first_conflict_after (λ x y. conflicts (f x) (f y)) (before ++ x ∷ []) xs)

pub first_conflict-map : {A B : Type 0} (conflicts : B → B → Bool) (f : A → B) (xs : List A)
    → first_conflict conflicts (map f xs) ≡ option_map (pair_made f) (first_conflict (λ x y. conflicts (f x) (f y)) xs)
first_conflict-map conflicts f xs = first_conflict_after-map conflicts f [] xs

numbered_from-map : {A B : Type 0} (f : A → B) (k : ℕ) (xs : List A) → numbered_from k (map f xs) ≡ map (numbered_made f) (numbered_from k xs)
numbered_from-map f k [] = refl
numbered_from-map f k (x ∷ xs) = ap (λ ns. record { number = k; what = f x } ∷ ns) (numbered_from-map f (k + 1) xs)

pub first_numbered_pair-map : {A B : Type 0} (conflicts : B → B → Bool) (f : A → B) (xs : List A)
    → first_conflict (λ (x y : Numbered B). conflicts x.what y.what) (numbered (map f xs)) ≡ option_map (pair_made (numbered_made f)) (first_conflict (λ (x y : Numbered A). conflicts (f x.what) (f y.what)) (numbered xs))
first_numbered_pair-map {A} {B} conflicts f xs =
    ap (first_conflict (λ (x y : Numbered B). conflicts x.what y.what)) (numbered_from-map f 1 xs)
    ∙ first_conflict-map (λ (x y : Numbered B). conflicts x.what y.what) (numbered_made f) (numbered xs)

-- The elements of a conflict among numbered elements.
whats_from : {A : Type 0} (k : ℕ) (xs : List A) → map (λ (n : Numbered A). n.what) (numbered_from k xs) ≡ xs
whats_from k [] = refl
whats_from k (x ∷ xs) = ap (λ ys. x ∷ ys) (whats_from (k + 1) xs)

pub without_numbers : {A : Type 0} (conflicts : A → A → Bool) (xs : List A)
    → first_conflict conflicts xs ≡ option_map (pair_made (λ (n : Numbered A). n.what)) (first_conflict (λ (x y : Numbered A). conflicts x.what y.what) (numbered xs))
without_numbers {A} conflicts xs =
    ap (first_conflict conflicts) (sym (whats_from 1 xs)) ∙ first_conflict-map conflicts (λ (n : Numbered A). n.what) (numbered xs)

option_map_twice : {A B C : Type 0} (g : B → C) (f : A → B) (o : Option A) → option_map g (option_map f o) ≡ option_map (λ x. g (f x)) o
option_map_twice g f None = refl
option_map_twice g f (Some x) = refl

-- The report of a conflict among mapped elements.
pub told_numbered : {A B C : Type 0} (conflicts : B → B → Bool) (f : A → B) (tell : Conflict (Numbered B) → C) (xs : List A) (o : Option (Conflict (Numbered A)))
    → o ≡ first_conflict (λ (x y : Numbered A). conflicts (f x.what) (f y.what)) (numbered xs)
    → option_map (λ p. tell (pair_made (numbered_made f) p)) o ≡ option_map tell (first_conflict (λ (x y : Numbered B). conflicts x.what y.what) (numbered (map f xs)))
told_numbered conflicts f tell xs o h =
    sym (option_map_twice tell (pair_made (numbered_made f)) o)
    ∙ ap (λ u. option_map tell (option_map (pair_made (numbered_made f)) u)) h
    ∙ ap (option_map tell) (sym (first_numbered_pair-map conflicts f xs))

pub told : {A B C : Type 0} (conflicts : B → B → Bool) (f : A → B) (tell : Conflict B → C) (xs : List A) (o : Option (Conflict (Numbered A)))
    → o ≡ first_conflict (λ (x y : Numbered A). conflicts (f x.what) (f y.what)) (numbered xs)
    → option_map (λ p. tell (pair_made (λ (n : Numbered A). f n.what) p)) o ≡ option_map tell (first_conflict conflicts (map f xs))
told {A} conflicts f tell xs o h =
    sym (option_map_twice (λ p. tell (pair_made f p)) (pair_made (λ (n : Numbered A). n.what)) o)
    ∙ ap (λ u. option_map (λ p. tell (pair_made f p)) (option_map (pair_made (λ (n : Numbered A). n.what)) u)) h
    ∙ ap (option_map (λ p. tell (pair_made f p))) (sym (without_numbers (λ x y. conflicts (f x) (f y)) xs))
    ∙ sym (option_map_twice tell (pair_made f) (first_conflict (λ x y. conflicts (f x) (f y)) xs))
    ∙ ap (option_map tell) (sym (first_conflict-map conflicts f xs))

-- An element that is found, between those before it that fail the test and the others.
record IsFound {A : Type 0} (p : A → Bool) (xs : List A) (y : A) : Type 0 where
  before : List A
  behind : List A
  whole : xs ≡ before ++ (y ∷ behind)
  passes : p y ≡ true
  first : list_all (λ x. not (p x)) before ≡ true

found_step : {A : Type 0} (p : A → Bool) (x : A) (xs : List A) (y : A) (b : Bool) → p x ≡ b → cond b (Some x) (find p xs) ≡ Some y → (find p xs ≡ Some y → IsFound p xs y) → IsFound p (x ∷ xs) y
found_step {A} p x xs y true here found later =
    let same : x ≡ y = some_same x y found in
    subst (IsFound p (x ∷ xs)) same (record { before = []; behind = xs; whole = refl; passes = here; first = refl })
found_step {A} p x xs y false here found later =
    let rest = later found in
    record {
      before = x ∷ rest.before;
      behind = rest.behind;
      whole = ap (λ zs. x ∷ zs) rest.whole;
      passes = rest.passes;
      first = rw (here, rest.first) refl;
    }

is_found : {A : Type 0} (p : A → Bool) (xs : List A) (y : A) → find p xs ≡ Some y → IsFound p xs y
is_found p [] y found = cc
is_found p (x ∷ xs) y found = found_step p x xs y (p x) refl found (is_found p xs y)

-- The conflict, after elements that have none.
pair_step : {A : Type 0} (conflicts : A → A → Bool) (before : List A) (x : A) (xs : List A) (p : Conflict A) (found : Option A) → find (conflicts x) before ≡ found → no_pair conflicts before ≡ true
    → option_or (option_map (λ y. record { later = x; earlier = y }) found) (first_conflict_after conflicts (before ++ x ∷ []) xs) ≡ Some p
    → (no_pair conflicts (before ++ x ∷ []) ≡ true → first_conflict_after conflicts (before ++ x ∷ []) xs ≡ Some p → IsFirstConflict conflicts ((before ++ x ∷ []) ++ xs) p)
    → IsFirstConflict conflicts (before ++ x ∷ xs) p
pair_step {A} conflicts before x xs p None none apart is later =
    subst (λ (ys : List A). IsFirstConflict conflicts ys p) (append_assoc before (x ∷ []) xs) (later (no_pair-push conflicts before x apart (none_found (conflicts x) before none)) is)
pair_step {A} conflicts before x xs p (Some y) one apart is later =
    let earlier = is_found (conflicts x) before y one in
    let same : record { later = x; earlier = y } ≡ p = some_same (record { later = x; earlier = y }) p is in
    subst (IsFirstConflict conflicts (before ++ x ∷ xs)) same
    (record {
      before = earlier.before;
      between = earlier.behind;
      behind = xs;
      whole = ap (λ ys. ys ++ x ∷ xs) earlier.whole ∙ append_assoc earlier.before (y ∷ earlier.behind) (x ∷ xs);
      barred = earlier.passes;
      earliest = earlier.first;
      first = ap (no_pair conflicts) (sym earlier.whole) ∙ apart;
    })

pair_behind : {A : Type 0} (conflicts : A → A → Bool) (before xs : List A) (p : Conflict A) → no_pair conflicts before ≡ true → first_conflict_after conflicts before xs ≡ Some p → IsFirstConflict conflicts (before ++ xs) p
pair_behind conflicts before [] p apart is = cc
pair_behind conflicts before (x ∷ xs) p apart is =
    pair_step conflicts before x xs p (find (conflicts x) before) refl apart is (λ apart_too later. pair_behind conflicts (before ++ x ∷ []) xs p apart_too later)

pub IsFirstConflict-first_conflict : {A : Type 0} (conflicts : A → A → Bool) (xs : List A) (p : Conflict A) → first_conflict conflicts xs ≡ Some p → IsFirstConflict conflicts xs p
IsFirstConflict-first_conflict conflicts xs p is = pair_behind conflicts [] xs p refl is

-- For a conflict that is mapped to something else.
pub IfSome-first_conflict : {A B : Type 0} (seen : B → Conflict A) (conflicts : A → A → Bool) (xs : List A) (r : Option B) → option_map seen r ≡ first_conflict conflicts xs → IfSome r (λ p. IsFirstConflict conflicts xs (seen p))
IfSome-first_conflict seen conflicts xs None is = tt
IfSome-first_conflict seen conflicts xs (Some p) is = IsFirstConflict-first_conflict conflicts xs (seen p) (sym is)

pub none_paired : {A B : Type 0} (seen : B → Conflict (Numbered A)) (test : A → A → Bool) (xs : List A) (r : Option B)
    → option_map seen r ≡ first_conflict (λ (x y : Numbered A). test x.what y.what) (numbered xs) → r ≡ None → no_pair test xs ≡ true
none_paired {A} seen test xs r is none =
    sym (no_pair_numbered test 1 xs)
    ∙ none_barred (λ (x y : Numbered A). test x.what y.what) (numbered xs) (sym is ∙ ap (option_map seen) none)
