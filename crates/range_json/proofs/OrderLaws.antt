-- Laws of lists in a strict order: the elements determine the list.
use Rattle.std.proofs.Common.{◌≡◌, inl, inr, suc, List, [], ◌∷◌, refl, sym, subst, ◌∙◌, arith}
use Rattle.std.specs.List.{All, AllPairs, Contains}
use Rattle.std.proofs.lemmas.List.Elements.{All-contains}
use Rattle.rules_space.proofs.ListLaws.{contains_cases, contains_first, contains_later, contains_none}

first_pairs : {X : Type 0} (R : X → X → Type 0) (x : X) (xs : List X) → AllPairs R (x ∷ xs) → All (R x) xs
first_pairs R x xs pairs = λ k d within. pairs 0 (suc k) d (omega arith) (omega (arith, within))

later_pairs : {X : Type 0} (R : X → X → Type 0) (x : X) (xs : List X) → AllPairs R (x ∷ xs) → AllPairs R xs
later_pairs R x xs pairs = λ i j d low within. pairs (suc i) (suc j) d (omega (arith, low)) (omega (arith, within))

heads_same : {X : Type 0} (R : X → X → Type 0) → ((x y : X) → R x y → R y x → ⊥) → (x y : X) (xs ys : List X) → AllPairs R (x ∷ xs) → AllPairs R (y ∷ ys)
    → Contains (y ∷ ys) x → Contains (x ∷ xs) y → x ≡ y
heads_same R never x y xs ys one other here there = elim (contains_cases y ys x here) [
  | inl is ↦ sym is
  | inr later ↦ elim (contains_cases x xs y there) [
    | inl is ↦ is
    | inr also ↦ absurd (never x y (All-contains (R x) xs y (first_pairs R x xs one) also) (All-contains (R y) ys x (first_pairs R y ys other) later))
  ]
]

tail_in : {X : Type 0} (R : X → X → Type 0) → ((x y : X) → R x y → R y x → ⊥) → (x y : X) (xs ys : List X) → AllPairs R (x ∷ xs) → x ≡ y
    → ((z : X) → Contains (x ∷ xs) z → Contains (y ∷ ys) z) → (z : X) → Contains xs z → Contains ys z
tail_in R never x y xs ys one heads into z there = elim (contains_cases y ys z (into z (contains_later x xs z there))) [
  | inl is ↦
      let after = All-contains (R x) xs z (first_pairs R x xs one) there in
      let itself = subst (R x) (sym (heads ∙ is)) after in
      absurd (never x x itself itself)
  | inr later ↦ later
]

-- Two lists in one strict order with the same elements are equal.
pub one_order : {X : Type 0} (R : X → X → Type 0) → ((x y : X) → R x y → R y x → ⊥) → (xs ys : List X) → AllPairs R xs → AllPairs R ys
    → ((x : X) → Contains xs x → Contains ys x) → ((x : X) → Contains ys x → Contains xs x) → xs ≡ ys
one_order R never [] [] one other into back = refl
one_order R never [] (y ∷ ys) one other into back = absurd (contains_none y (back y (contains_first y ys y refl)))
one_order R never (x ∷ xs) [] one other into back = absurd (contains_none x (into x (contains_first x xs x refl)))
one_order R never (x ∷ xs) (y ∷ ys) one other into back =
    let heads : x ≡ y = heads_same R never x y xs ys one other (into x (contains_first x xs x refl)) (back y (contains_first y ys y refl)) in
    let rest : xs ≡ ys =
    one_order R never xs ys (later_pairs R x xs one) (later_pairs R y ys other) (tail_in R never x y xs ys one heads into)
    (tail_in R never y x ys xs other (sym heads) back) in
    λ i. heads i ∷ rest i
