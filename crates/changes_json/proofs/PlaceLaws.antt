-- The place of a flow in the list of every flow.
use Rattle.std.proofs.Common.{◌≡◌, ◌≢◌, ◌⊎◌, inl, inr, ℕ, ◌+◌, ◌*◌, ◌-◌, ◌==◌, ◌<◌, ◌≤◌, zero, suc, Bool, true, false, List, [], ◌∷◌, ◌++◌, length, get_or, map, Some, refl, sym, ap, subst, ◌∙◌, arith}
use Rattle.std.specs.List.{Contains, flat_map, range_with_len}
use Rattle.std.specs.Prelude.{if◌then◌else◌, nat_lt, slice_get}
use Rattle.std.proofs.lemmas.Bool.{cases_eq, cases_lt, eq-eqb, eqb-true, false_from_ne_true}
use Rattle.std.proofs.lemmas.Bool.Decides.{nat_tests}
use Rattle.std.proofs.lemmas.List.{get_or-map, length-map}
use Rattle.std.proofs.lemmas.List.Elements.{Contains-get_or}
use Rattle.std.proofs.lemmas.Option.{get_or_from_slice_get, slice_get_within}
use Rattle.flow_set.specs.EveryFlow.{every_flow, flow_or_none}
use Rattle.flow_set.specs.Flow.{IsFlow}
use Rattle.flow_set.specs.declared.flow.Flow.{Flow}
use Rattle.explain_core.specs.declared.finding.Finding.{Finding}
use Rattle.changes_json.specs.inner.Denying.{HasFinding, place_of}

-- ---- joined lists

left_of : {X : Type 0} (xs ys : List X) (i : ℕ) (x : X) → slice_get xs i ≡ Some x → slice_get (xs ++ ys) i ≡ Some x
left_of [] ys i x is = cc is
left_of (z ∷ zs) ys zero x is = is
left_of (z ∷ zs) ys (suc i) x is = left_of zs ys i x is

right_of : {X : Type 0} (xs ys : List X) (i p : ℕ) → p ≡ length xs + i → slice_get (xs ++ ys) p ≡ slice_get ys i
right_of [] ys i p is = ap (slice_get ys) (omega (arith, is))
right_of (x ∷ xs) ys i zero is = absurd (omega (arith, is))
right_of (x ∷ xs) ys i (suc p) is = right_of xs ys i p (omega (arith, is))

-- ---- the flows from one host

abbrev row : ℕ → ℕ → ℕ → List Flow
row i k m = flat_map (flow_or_none i) (range_with_len k m)

abbrev to : ℕ → ℕ → Flow
to i j = record { from = i; to = j }

-- The place of the flow from i to j among those to the hosts from k on: host i itself is left out.
abbrev IsPlace : (i k j at : ℕ) → Type 0
IsPlace i k j at = (((i < k) ⊎ (j < i)) × (at + k ≡ j)) ⊎ ((k ≤ i) × (i < j) × (at + k + 1 ≡ j))

itself : (i k : ℕ) → i ≡ k → (i == k) ≡ true
itself i k is = eq-eqb i k is

another : (i k : ℕ) → (i ≡ k → ⊥) → (i == k) ≡ false
another i k differ = false_from_ne_true (i == k) (λ same. differ (eqb-true i k same))

after_itself : (i k j at : ℕ) → i ≡ k → IsPlace i k j at → IsPlace i (k + 1) j at
after_itself i k j at is (inl (inl low, place)) = absurd (omega (arith, is, low))
after_itself i k j at is (inl (inr low, place)) = absurd (omega (arith, is, low, place))
after_itself i k j at is (inr (here, high, place)) = inl (inl (omega (arith, is)), omega (arith, place))

after_another : (i k j at : ℕ) → (i ≡ k → ⊥) → IsPlace i k j (suc at) → IsPlace i (k + 1) j at
after_another i k j at differ (inl (inl low, place)) = inl (inl (omega (arith, low)), omega (arith, place))
after_another i k j at differ (inl (inr low, place)) = inl (inr low, omega (arith, place))
after_another i k j at differ (inr (here, high, place)) = inr (next (cases_lt k i), high, omega (arith, place))
  where
    next : (k < i) ⊎ (i ≤ k) → k + 1 ≤ i
    next (inl less) = omega (arith, less)
    next (inr more) = absurd (differ (omega (arith, here, more)))

first_is : (i k j : ℕ) → (i ≡ k → ⊥) → IsPlace i k j 0 → k ≡ j
first_is i k j differ (inl (sides, place)) = omega (arith, place)
first_is i k j differ (inr (here, high, place)) = absurd (differ (omega (arith, here, high, place)))

none_left : (i k j at : ℕ) → j < k + 0 → IsPlace i k j at → ⊥
none_left i k j at low (inl (sides, place)) = omega (arith, low, place)
none_left i k j at low (inr (here, high, place)) = omega (arith, low, place)

row_step : (i k j at : ℕ) (rest : List Flow) (b : Bool) → (i == k) ≡ b → (i ≡ k) ⊎ (i ≡ k → ⊥) → IsPlace i k j at
    → ((p : ℕ) → IsPlace i (k + 1) j p → slice_get rest p ≡ Some (to i j))
    → slice_get ((if b then [] else (to i k ∷ [])) ++ rest) at ≡ Some (to i j)
row_step i k j at rest true is (inl same) place later = later at (after_itself i k j at same place)
row_step i k j at rest true is (inr differ) place later = absurd (differ (eqb-true i k is))
row_step i k j at rest false is (inl same) place later = let both : true ≡ false = sym (itself i k same) ∙ is in cc both
row_step i k j zero rest false is (inr differ) place later = ap (λ (h : ℕ). Some (to i h)) (first_is i k j differ place)
row_step i k j (suc at) rest false is (inr differ) place later = later at (after_another i k j at differ place)

row_at : (m i k j at : ℕ) → j < k + m → IsPlace i k j at → slice_get (row i k m) at ≡ Some (to i j)
row_at zero i k j at low place = absurd (none_left i k j at low place)
row_at (suc m) i k j at low place =
    row_step i k j at (row i (k + 1) m) (i == k) refl (cases_eq i k) place (λ p is. row_at m i (k + 1) j p (omega (arith, low)) is)

length_step : (i k : ℕ) (rest : List Flow) (b : Bool) → length ((if b then [] else (to i k ∷ [])) ++ rest) ≡ (if b then length rest else suc (length rest))
length_step i k rest true = refl
length_step i k rest false = refl

length_beyond : (m i k : ℕ) → i < k → length (row i k m) ≡ m
length_beyond zero i k low = refl
length_beyond (suc m) i k low =
    length_step i k (row i (k + 1) m) (i == k)
    ∙ ap (λ (b : Bool). if b then length (row i (k + 1) m) else suc (length (row i (k + 1) m))) (another i k (λ same. omega (arith, same, low)))
    ∙ ap suc (length_beyond m i (k + 1) (omega (arith, low)))

length_row : (m i k : ℕ) → k ≤ i → i < k + m → length (row i k m) + 1 ≡ m
length_row zero i k here low = absurd (omega (arith, here, low))
length_row (suc m) i k here low = by_host (λ above. length_row m i (k + 1) above (omega (arith, low))) (cases_eq i k)
  where
    next : (i ≡ k → ⊥) → (k < i) ⊎ (i ≤ k) → k + 1 ≤ i
    next differ (inl less) = omega (arith, less)
    next differ (inr more) = absurd (differ (omega (arith, here, more)))

    by_host : (k + 1 ≤ i → length (row i (k + 1) m) + 1 ≡ m) → (i ≡ k) ⊎ (i ≡ k → ⊥) → length (row i k (suc m)) + 1 ≡ suc m
    by_host later (inl same) =
        let is : length (row i k (suc m)) ≡ m =
        length_step i k (row i (k + 1) m) (i == k)
        ∙ ap (λ (b : Bool). if b then length (row i (k + 1) m) else suc (length (row i (k + 1) m))) (itself i k same)
        ∙ length_beyond m i (k + 1) (omega (arith, same)) in
        omega (arith, is)
    by_host later (inr differ) =
        let is : length (row i k (suc m)) ≡ suc (length (row i (k + 1) m)) =
        length_step i k (row i (k + 1) m) (i == k)
        ∙ ap (λ (b : Bool). if b then length (row i (k + 1) m) else suc (length (row i (k + 1) m))) (another i k differ) in
        let rest = later (next differ (cases_lt k i)) in
        omega (arith, is, rest)

-- ---- the flows from all hosts

abbrev rows : ℕ → ℕ → ℕ → List Flow
rows n k m = flat_map (λ i. row i 0 n) (range_with_len k m)

next_row : (d w at p l : ℕ) → l ≡ w → p ≡ suc d * w + at → p ≡ l + (d * w + at)
next_row d w at p l long is = is ∙ grind arith

rows_at : (m n k d at w p : ℕ) (f : Flow) → d < m → k + m ≤ n → w + 1 ≡ n → p ≡ d * w + at → slice_get (row (k + d) 0 n) at ≡ Some f
    → slice_get (rows n k m) p ≡ Some f
rows_at zero n k d at w p f low high is place found = absurd (omega (arith, low))
rows_at (suc m) n k zero at w p f low high is place found =
    let here : p ≡ at = omega (arith, place) in
    left_of (row k 0 n) (rows n (k + 1) m) p f
    (ap (slice_get (row k 0 n)) here ∙ subst (λ (i : ℕ). slice_get (row i 0 n) at ≡ Some f) (omega arith) found)
rows_at (suc m) n k (suc d) at w p f low high is place found =
    let one = length_row n k 0 (omega arith) (omega (arith, high)) in
    let long : length (row k 0 n) ≡ w = omega (arith, one, is) in
    right_of (row k 0 n) (rows n (k + 1) m) (d * w + at) p (next_row d w at p (length (row k 0 n)) long place)
    ∙ rows_at m n (k + 1) d at w (d * w + at) f (omega (arith, low)) (omega (arith, high)) is refl
    (subst (λ (i : ℕ). slice_get (row i 0 n) at ≡ Some f) (omega arith) found)

place_in_row : (i j : ℕ) → i ≢ j → IsPlace i 0 j (if nat_lt j i then j else j - 1)
place_in_row i j differ = by_order (cases_lt j i)
  where
    by_order : (j < i) ⊎ (i ≤ j) → IsPlace i 0 j (if nat_lt j i then j else j - 1)
    by_order (inl less) =
        let is : nat_lt j i ≡ true = grind (arith, nat_tests) in
        subst (λ (b : Bool). IsPlace i 0 j (if b then j else j - 1)) (sym is) (inl (inr less, omega arith))
    by_order (inr more) =
        let is : nat_lt j i ≡ false = grind (arith, nat_tests) in
        let above : i < j = omega (arith, more, differ) in
        subst (λ (b : Bool). IsPlace i 0 j (if b then j else j - 1)) (sym is) (inr (omega arith, above, omega (arith, above)))

-- The flow is at its place.
pub flow_at : (n : ℕ) (f : Flow) → IsFlow n f → slice_get (every_flow n) (place_of n f) ≡ Some f
unfolding every_flow
flow_at n f (starts, ends, differ) =
    let at : ℕ = if nat_lt f.to f.from then f.to else f.to - 1 in
    rows_at n n 0 f.from at (n - 1) (place_of n f) f starts (omega arith) (omega (arith, starts)) refl
    (subst (λ (i : ℕ). slice_get (row i 0 n) at ≡ Some f) (omega arith) (row_at n f.from 0 f.to at (omega (arith, ends)) (place_in_row f.from f.to differ)))

module _ (n : ℕ) (f : Flow) (found : List Finding) (every : map (λ x. x.flow) found ≡ every_flow n) (is_flow : IsFlow n f) (p : ℕ) (is : p ≡ place_of n f) where
  flow_there : slice_get (map (λ x. x.flow) found) p ≡ Some f
  flow_there = ap (λ (fs : List Flow). slice_get fs p) every ∙ ap (slice_get (every_flow n)) is ∙ flow_at n f is_flow

  -- The place is one of the findings of every flow.
  pub place_within : p < length found
  place_within =
      let low = slice_get_within (map (λ x. x.flow) found) p f flow_there in
      let long = length-map found (λ x. x.flow) in
      omega (arith, low, long)

  -- The finding at the place is that of the flow.
  pub finding_at : (x : Finding) (numbers : List ℕ) → x ≡ get_or found p x → numbers ≡ (get_or found p x).by.items → HasFinding found f numbers
  finding_at x numbers read same = record {
    finding = x;
    listed = subst (Contains found) (sym read) (Contains-get_or found p x place_within);
    flow =
        ap (λ (y : Finding). y.flow) read
        ∙ sym (get_or-map (λ y. y.flow) found p x f place_within)
        ∙ get_or_from_slice_get (map (λ y. y.flow) found) p f f flow_there;
    numbers_are = ap (λ (y : Finding). y.by.items) read ∙ sym same;
  }
