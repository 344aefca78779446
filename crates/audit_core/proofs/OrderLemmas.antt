-- Elements of listed lists. Two ascending lists with the same numbers are equal.
use Rattle.std.proofs.Common.{◌≡◌, ◌⊎◌, inl, inr, ℕ, suc, ◌<◌, List, [], ◌∷◌, refl, sym, ap, subst, arith}
use Rattle.std.specs.List.{AllPairs, Contains, flat_map}
use Rattle.std.specs.List.Sorted.{IsStrictlyIncreasing}
use Rattle.std.proofs.lemmas.List.Elements.{Contains-append_left, Contains-append_right}
use Rattle.std.proofs.lemmas.List.Kept.{AllPairs-from_increasing}
use Rattle.rules_space.proofs.ListLaws.{contains_cases, contains_first, contains_later, contains_none}

-- An element of a list that is listed for an element of another list.
pub contains_within : {X Y : Type 0} (f : X → List Y) (xs : List X) (x : X) (d : Y) → Contains xs x → Contains (f x) d → Contains (flat_map f xs) d
contains_within f [] x d there here = absurd (contains_none x there)
contains_within {Y = Y} f (y ∷ xs) x d there here = elim (contains_cases y xs x there) [
  | inl is ↦ Contains-append_left (f y) (flat_map f xs) d (subst (λ (l : List Y). Contains l d) (ap f (sym is)) here)
  | inr later ↦ Contains-append_right (f y) (flat_map f xs) d (contains_within f xs x d later here)
]

-- Each number is less than all numbers after it.
abbrev Rises : List ℕ → Type 0
Rises [] = Unit {0}
Rises (x ∷ xs) = ((y : ℕ) → Contains xs y → x < y) × Rises xs

rises_by_pairs : (xs : List ℕ) → AllPairs (λ x y. x < y) xs → Rises xs
rises_by_pairs [] pairs = tt
rises_by_pairs (x ∷ xs) pairs = (head, rises_by_pairs xs (λ i j d before within. pairs (suc i) (suc j) d (omega arith) (omega arith)))
  where
    head : (y : ℕ) → Contains xs y → x < y
    head y (k, within, is) = let less = pairs 0 (suc k) y (omega arith) (omega arith) in omega (arith, less, is)

rises_ext : (xs ys : List ℕ) → Rises xs → Rises ys → ((c : ℕ) → Contains xs c → Contains ys c) → ((c : ℕ) → Contains ys c → Contains xs c) → xs ≡ ys
rises_ext [] [] up more to back = refl
rises_ext [] (y ∷ ys) up more to back = absurd (contains_none y (back y (contains_first y ys y refl)))
rises_ext (x ∷ xs) [] up more to back = absurd (contains_none x (to x (contains_first x xs x refl)))
rises_ext (x ∷ xs) (y ∷ ys) up more to back =
    let low : (y ≡ x) ⊎ (y < x) = elim (contains_cases y ys x (to x (contains_first x xs x refl))) [ inl is ↦ inl is | inr later ↦ inr (more.0 x later) ] in
    let high : (x ≡ y) ⊎ (x < y) = elim (contains_cases x xs y (back y (contains_first y ys y refl))) [ inl is ↦ inl is | inr later ↦ inr (up.0 y later) ] in
    let same : x ≡ y = elim low [ inl is ↦ sym is | inr below ↦ elim high [ inl is ↦ is | inr above ↦ absurd (omega arith) ] ] in
    let rest : xs ≡ ys = rises_ext xs ys up.1 more.1
    (λ c there. elim (contains_cases y ys c (to c (contains_later x xs c there))) [ inl is ↦ let above = up.0 c there in absurd (omega (arith, is, same)) | inr later ↦ later ])
    (λ c there. elim (contains_cases x xs c (back c (contains_later y ys c there))) [ inl is ↦ let above = more.0 c there in absurd (omega (arith, is, same)) | inr later ↦ later ]) in
    λ i. same i ∷ rest i

-- Two ascending lists with the same numbers are equal.
pub increasing_ext : (xs ys : List ℕ) → IsStrictlyIncreasing xs → IsStrictlyIncreasing ys → ((c : ℕ) → Contains xs c → Contains ys c)
    → ((c : ℕ) → Contains ys c → Contains xs c) → xs ≡ ys
increasing_ext xs ys up more =
    rises_ext xs ys (rises_by_pairs xs (AllPairs-from_increasing xs up)) (rises_by_pairs ys (AllPairs-from_increasing ys more))
