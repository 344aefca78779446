-- Laws of lists: elements of joined and filtered lists, and properties of all pairs of elements.
use Rattle.std.proofs.Common.{◌≡◌, ◌⊎◌, inl, inr, zero, suc, Bool, true, false, cond, List, [], ◌∷◌, ◌++◌, get_or, refl, sym, ap, subst, ◌∙◌, arith}
use Rattle.std.specs.List.{All, AllPairs, Contains, filter, flat_map}
use Rattle.std.proofs.lemmas.List.Elements.{All-append, All-contains, Contains-append_cases, Contains-append_left, Contains-append_right, Contains-get_or}
use Rattle.std.proofs.lemmas.List.Kept.{AllPairs-cons}

-- 1. Elements.

pub contains_cases : {X : Type 0} (x : X) (xs : List X) (d : X) → Contains (x ∷ xs) d → (x ≡ d) ⊎ Contains xs d
contains_cases x xs d (zero, within, is) = inl is
contains_cases x xs d (suc k, within, is) = inr (k, omega arith, is)

pub contains_later : {X : Type 0} (x : X) (xs : List X) (d : X) → Contains xs d → Contains (x ∷ xs) d
contains_later x xs d (k, within, is) = (suc k, omega arith, is)

pub contains_none : {X : Type 0} (d : X) → Contains [] d → ⊥
contains_none d (k, within, is) = omega arith

pub contains_first : {X : Type 0} (x : X) (xs : List X) (d : X) → x ≡ d → Contains (x ∷ xs) d
contains_first x xs d is = (0, omega arith, is)

-- An element of a joined list is an element of one of its parts.
pub part_of : {X Y : Type 0} (f : X → List Y) (xs : List X) (y : Y) → Contains (flat_map f xs) y → (x : X) × Contains xs x × Contains (f x) y
part_of f [] y there = absurd (contains_none y there)
part_of f (x ∷ xs) y there = elim (Contains-append_cases (f x) (flat_map f xs) y there) [
  | inl here ↦ (x, contains_first x xs x refl, here)
  | inr later ↦ let rest = part_of f xs y later in (rest.0, contains_later x xs rest.0 rest.1, rest.2)
]

pub part_among : {X Y : Type 0} (f : X → List Y) (xs : List X) (x : X) (y : Y) → Contains xs x → Contains (f x) y → Contains (flat_map f xs) y
part_among f [] x y there here = absurd (contains_none x there)
part_among {X = X} {Y = Y} f (z ∷ xs) x y there here = elim (contains_cases z xs x there) [
  | inl is ↦ Contains-append_left (f z) (flat_map f xs) y (subst (λ (w : X). Contains (f w) y) (sym is) here)
  | inr later ↦ Contains-append_right (f z) (flat_map f xs) y (part_among f xs x y later here)
]

pub passing_among : {X : Type 0} (test : X → Bool) (xs : List X) (x : X) → test x ≡ true → Contains xs x → Contains (filter test xs) x
passing_among test [] x passes there = absurd (contains_none x there)
passing_among {X = X} test (y ∷ ys) x passes there = by_test (test y) refl (λ later. passing_among test ys x passes later)
  where
    by_test : (b : Bool) → test y ≡ b → (Contains ys x → Contains (filter test ys) x) → Contains (cond b (y ∷ filter test ys) (filter test ys)) x
    by_test true is within = elim (contains_cases y ys x there) [
      | inl same ↦ contains_first y (filter test ys) x same
      | inr later ↦ contains_later y (filter test ys) x (within later)
    ]
    by_test false is within = elim (contains_cases y ys x there) [
      | inl same ↦ let no : true ≡ false = sym passes ∙ sym (ap test same) ∙ is in let never : ⊥ = cc in absurd never
      | inr later ↦ within later
    ]

-- 2. Pairs of elements.

pub pairs_none : {X : Type 0} (R : X → X → Type 0) → AllPairs R []
pairs_none R = λ i j d before within. absurd (omega (arith, within))

pub pairs_one : {X : Type 0} (R : X → X → Type 0) (x : X) → AllPairs R (x ∷ [])
pairs_one R x = λ i j d before within. absurd (omega (arith, before, within))

pairs_first : {X : Type 0} (R : X → X → Type 0) (x : X) (xs : List X) → AllPairs R (x ∷ xs) → All (R x) xs
pairs_first R x xs pairs = λ k d within. pairs 0 (suc k) d (omega arith) (omega (arith, within))

pairs_later : {X : Type 0} (R : X → X → Type 0) (x : X) (xs : List X) → AllPairs R (x ∷ xs) → AllPairs R xs
pairs_later R x xs pairs = λ i j d before within. pairs (suc i) (suc j) d (omega (arith, before)) (omega (arith, within))

pairs_joined : {X : Type 0} (R : X → X → Type 0) (xs ys : List X) → AllPairs R xs → AllPairs R ys
    → ((x y : X) → Contains xs x → Contains ys y → R x y) → AllPairs R (xs ++ ys)
pairs_joined R [] ys left right across = right
pairs_joined R (x ∷ xs) ys left right across =
    AllPairs-cons R x (xs ++ ys)
    (All-append (R x) xs ys (pairs_first R x xs left)
    (λ k d within. across x (get_or ys k d) (contains_first x xs x refl) (Contains-get_or ys k d within)))
    (pairs_joined R xs ys (pairs_later R x xs left) right (λ y z there after. across y z (contains_later x xs y there) after))

-- The pairs of a joined list, by the pairs of each part and the pairs between two parts.
pub pairs_of_parts : {X Y : Type 0} (R : X → X → Type 0) (S : Y → Y → Type 0) (f : X → List Y) → ((x : X) → AllPairs S (f x))
    → ((x z : X) → R x z → (u v : Y) → Contains (f x) u → Contains (f z) v → S u v)
    → (xs : List X) → AllPairs R xs → AllPairs S (flat_map f xs)
pairs_of_parts R S f within across [] pairs = pairs_none S
pairs_of_parts R S f within across (x ∷ xs) pairs =
    pairs_joined S (f x) (flat_map f xs) (within x) (pairs_of_parts R S f within across xs (pairs_later R x xs pairs))
    (λ u v here later.
    let part = part_of f xs v later in
    across x part.0 (All-contains (R x) xs part.0 (pairs_first R x xs pairs) part.1) u v here part.2)
