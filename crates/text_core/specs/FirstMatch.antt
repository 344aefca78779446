-- The first of several results, and the first element that conflicts with an earlier one.
use Rattle.std.specs.Prelude.{ℕ, ◌+◌, Bool, if◌then◌else◌, List, [], ◌∷◌, ◌++◌, Option, Some, None, find}
use Rattle.std.specs.Option.{option_map, option_or}

-- The value, if a condition holds.
abbrev pub some_if : {A : Type 0} → Bool → A → Option A
some_if holds x = if holds then Some x else None

-- The first value that is present.
abbrev pub first_of : {A : Type 0} → List (Option A) → Option A
first_of [] = None
first_of (answer ∷ answers) = option_or answer (first_of answers)

-- The result of the first element that has one.
abbrev pub first_found : {A B : Type 0} → (A → Option B) → List A → Option B
first_found f [] = None
first_found f (x ∷ xs) = option_or (f x) (first_found f xs)

-- An element and its number in the list, from 1.
pub record Numbered (A : Type 0) : Type 0 where
  pub number : ℕ
  pub what : A

-- The elements with their numbers, from a given number on.
abbrev pub numbered_from : {A : Type 0} → ℕ → List A → List (Numbered A)
numbered_from k [] = []
numbered_from k (x ∷ xs) = record { number = k; what = x } ∷ numbered_from (k + 1) xs

-- The elements with their numbers, from 1.
abbrev pub numbered : {A : Type 0} → List A → List (Numbered A)
numbered xs = numbered_from 1 xs

-- An element, and the earliest one with which it conflicts.
pub record Conflict (A : Type 0) : Type 0 where
  pub later : A
  pub earlier : A

-- The first element of xs that conflicts with one of `before` or with an earlier one of xs.
abbrev pub first_conflict_after : {A : Type 0} → (A → A → Bool) → List A → List A → Option (Conflict A)
first_conflict_after conflicts before [] = None
first_conflict_after conflicts before (x ∷ xs) =
    option_or (option_map (λ y. record { later = x; earlier = y }) (find (conflicts x) before)) (first_conflict_after conflicts (before ++ x ∷ []) xs)

-- The first element that conflicts with an earlier one, and the earliest such one.
abbrev pub first_conflict : {A : Type 0} → (A → A → Bool) → List A → Option (Conflict A)
first_conflict conflicts xs = first_conflict_after conflicts [] xs
