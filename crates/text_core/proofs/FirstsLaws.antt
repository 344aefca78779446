-- Lemmas on first matches: if there is no first match, no element satisfies the condition, and no two elements conflict.
use Rattle.std.proofs.Common.{◌≡◌, ℕ, ◌+◌, Bool, true, false, cond, not, ◌&&◌, List, [], ◌∷◌, ◌++◌, Option, Some, None, option_map, refl, sym, ◌∙◌}
use Rattle.std.proofs.lemmas.Bool.{and_parts}
use Rattle.std.proofs.lemmas.List.Folds.{list_all-append}
use Rattle.std.specs.List.{list_all, find}
use Rattle.text_core.specs.FirstMatch.{first_conflict, first_conflict_after, Numbered, Conflict, numbered_from, some_if}
use Rattle.text_core.specs.inner.Pairs.{no_pair}
use Rattle.std.specs.Option.{option_or}

pub neither : {A : Type 0} (o p : Option A) → option_or o p ≡ None → (o ≡ None) × (p ≡ None)
neither None p h = (refl, h)
neither (Some x) p h = cc

pub none_mapped : {A B : Type 0} (f : A → B) (o : Option A) → option_map f o ≡ None → o ≡ None
none_mapped f None h = refl
none_mapped f (Some x) h = cc

-- The condition does not hold.
pub holds_not : {A : Type 0} (holds : Bool) (x : A) → some_if holds x ≡ None → holds ≡ false
holds_not true x h = cc
holds_not false x h = refl

pub some_same : {A : Type 0} (x y : A) → Some x ≡ Some y → x ≡ y
some_same x y h = cc

-- The condition holds, and this is the result.
pub where_parts : {A : Type 0} (holds : Bool) (x y : A) → some_if holds x ≡ Some y → (holds ≡ true) × (x ≡ y)
where_parts true x y h = (refl, some_same x y h)
where_parts false x y h = cc

missed : {A : Type 0} (t : Bool) (x : A) (o : Option A) → cond t (Some x) o ≡ None → (not t ≡ true) × (o ≡ None)
missed true x o h = cc
missed false x o h = (refl, h)

-- No element satisfies the condition.
pub none_found : {A : Type 0} (p : A → Bool) (xs : List A) → find p xs ≡ None → list_all (λ x. not (p x)) xs ≡ true
none_found p [] h = refl
none_found p (x ∷ xs) h =
    let (here, behind) = missed (p x) x (find p xs) h in
    rw (here, none_found p xs behind)

both : {A : Type 0} (p q : A → Bool) (xs : List A) → list_all p xs ≡ true → list_all q xs ≡ true → list_all (λ x. p x && q x) xs ≡ true
both p q [] all_p all_q = refl
both p q (x ∷ xs) all_p all_q =
    let (here_p, behind_p) = and_parts (p x) (list_all p xs) all_p in
    let (here_q, behind_q) = and_parts (q x) (list_all q xs) all_q in
    rw (here_p, here_q, both p q xs behind_p behind_q)

all_true : {A : Type 0} (xs : List A) → list_all (λ x. true) xs ≡ true
all_true [] = refl
all_true (x ∷ xs) = all_true xs

-- No element conflicts with a later one, and none of those before does.
unbarred_behind : {A : Type 0} (conflicts : A → A → Bool) (before xs : List A) → first_conflict_after conflicts before xs ≡ None
    → (no_pair conflicts xs ≡ true) × (list_all (λ y. list_all (λ x. not (conflicts x y)) xs) before ≡ true)
unbarred_behind conflicts before [] h = (refl, all_true before)
unbarred_behind {A} conflicts before (x ∷ xs) h =
    let barred : A → Conflict A = λ y. record { later = x; earlier = y } in
    let (here, behind) = neither (option_map barred (find (conflicts x) before)) (first_conflict_after conflicts (before ++ x ∷ []) xs) h in
    let unbarred = none_found (conflicts x) before (none_mapped barred (find (conflicts x) before) here) in
    let (rest, all) = unbarred_behind conflicts (before ++ x ∷ []) xs behind in
    let unbarring = λ (y : A). list_all (λ z. not (conflicts z y)) xs in
    let (earlier, last) = and_parts (list_all unbarring before) (list_all unbarring (x ∷ [])) (sym (list_all-append unbarring before (x ∷ [])) ∙ all) in
    let (own, _) = and_parts (unbarring x) true last in
    (rw (own, rest), both (λ y. not (conflicts x y)) unbarring before unbarred earlier)

-- No element conflicts with a later one.
pub none_barred : {A : Type 0} (conflicts : A → A → Bool) (xs : List A) → first_conflict conflicts xs ≡ None → no_pair conflicts xs ≡ true
none_barred conflicts xs h = (unbarred_behind conflicts [] xs h).0

-- Tests of numbered elements that do not depend on the numbers.
pub all_numbered : {A : Type 0} (p : A → Bool) (k : ℕ) (xs : List A) → list_all (λ (x : Numbered A). p x.what) (numbered_from k xs) ≡ list_all p xs
all_numbered p k [] = refl
all_numbered p k (x ∷ xs) = rw (all_numbered p (k + 1) xs)

pub no_pair_numbered : {A : Type 0} (r : A → A → Bool) (k : ℕ) (xs : List A) → no_pair (λ (x y : Numbered A). r x.what y.what) (numbered_from k xs) ≡ no_pair r xs
no_pair_numbered r k [] = refl
no_pair_numbered r k (x ∷ xs) = rw (all_numbered (λ y. not (r y x)) (k + 1) xs, no_pair_numbered r (k + 1) xs)
