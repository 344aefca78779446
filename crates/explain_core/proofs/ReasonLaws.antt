-- Uniqueness of the list of reasons of a set of flows, and of the list of findings of flows.
use Rattle.std.proofs.Common.{◌≡◌, ◌<◌, ◌==◌, ℕ, Bool, inl, inr, List, [], ◌∷◌, length, map, get_or, refl, sym, ◌∙◌, ap, subst, arith}
use Rattle.std.specs.Prelude.{IsTrue, slice_get, Some}
use Rattle.std.proofs.lemmas.Bool.{cases_Bool, eqb-true, false≢true, or_cases, or_left, or_right}
use Rattle.std.proofs.lemmas.Bool.Decides.{nat_tests}
use Rattle.std.proofs.lemmas.List.{ext_get_or, get_or-map, length-map}
use Rattle.flow_set.specs.declared.flow.Flow.{Flow}
use Rattle.explain_core.specs.Failing.{AreFailing, IsAscending, among}
use Rattle.explain_core.specs.Findings.{AreFindings}
use Rattle.explain_core.specs.Reasons.{AreReasons}
use Rattle.explain_core.specs.declared.finding.Finding.{Finding}
use Rattle.explain_core.specs.declared.reason.Reason.{Reason}
use Rattle.explain_core.proofs.LeastLaws.{both_imply, least_is_one}
use Rattle.explain_core.proofs.NumberLaws.{among-read}

-- ---- numbers

same_number : (n : ℕ) → IsTrue (n == n)
same_number n = grind (arith, nat_tests)

-- Two ascending lists with the same numbers have the same first number.
same_first : (n m : ℕ) (ns ms : List ℕ) → IsAscending (n ∷ ns) → IsAscending (m ∷ ms) → ((k : ℕ) → among (n ∷ ns) k ≡ among (m ∷ ms) k) → n ≡ m
same_first n m ns ms a b same =
    elim (or_cases (m == n) (among ms n) (sym (same n) ∙ or_left _ _ (same_number n))) [
      | inl is ↦ sym (eqb-true m n is)
      | inr later ↦ elim (or_cases (n == m) (among ns m) (same m ∙ or_left _ _ (same_number m))) [
        | inl is ↦ eqb-true n m is
        | inr also ↦ absurd (omega (arith, b.0 n later, a.0 m also))
      ]
    ]

-- If two ascending lists have the same numbers, a number after the first number of one list is after the first number of the other.
behind_first : (n m k : ℕ) (ns ms : List ℕ) → n ≡ m → IsAscending (n ∷ ns) → ((j : ℕ) → among (n ∷ ns) j ≡ among (m ∷ ms) j) → IsTrue (among ns k) → IsTrue (among ms k)
behind_first n m k ns ms first a same there =
    elim (or_cases (m == k) (among ms k) (sym (same k) ∙ or_right _ _ there)) [
      | inl is ↦ absurd (omega (arith, a.0 k there, first, eqb-true m k is))
      | inr later ↦ later
    ]

-- Two ascending lists with the same numbers are equal.
ascending_ext : (ns ms : List ℕ) → IsAscending ns → IsAscending ms → ((k : ℕ) → among ns k ≡ among ms k) → ns ≡ ms
ascending_ext [] [] a b same = refl
ascending_ext [] (m ∷ ms) a b same = absurd (false≢true (same m ∙ or_left _ _ (same_number m)))
ascending_ext (n ∷ ns) [] a b same = absurd (false≢true (sym (same n) ∙ or_left _ _ (same_number n)))
ascending_ext (n ∷ ns) (m ∷ ms) a b same =
    let first : n ≡ m = same_first n m ns ms a b same in
    let rest : ns ≡ ms =
    ascending_ext ns ms a.1 b.1
    (λ k. both_imply (among ns k) (among ms k) (behind_first n m k ns ms first a same) (behind_first m n k ms ns (sym first) b (λ j. sym (same j)))) in
    ap (λ k. k ∷ ns) first ∙ ap (λ ks. m ∷ ks) rest

-- The number of a failing invariant is in every list of the numbers of all failing invariants.
failing_too : {X : Type 0} (chosen : X → Bool) (HoldsOn : X → List Flow → Type 0) (invs : List X) (e : List Flow) (ns ms : List ℕ)
    → AreFailing chosen HoldsOn invs e ns → AreFailing chosen HoldsOn invs e ms → (k : ℕ) → IsTrue (among ns k) → IsTrue (among ms k)
failing_too chosen HoldsOn invs e ns ms a b k there =
    elim (cases_Bool (among ms k)) [
      | inl member ↦ member
      | inr absent ↦ let found = a.failing k there in absurd (found.fails (b.others k found.inv found.place found.counts absent))
    ]

pub failing_is_one : {X : Type 0} (chosen : X → Bool) (HoldsOn : X → List Flow → Type 0) (invs : List X) (e : List Flow) (ns ms : List ℕ)
    → AreFailing chosen HoldsOn invs e ns → AreFailing chosen HoldsOn invs e ms → ns ≡ ms
failing_is_one chosen HoldsOn invs e ns ms a b =
    ascending_ext ns ms a.ascending b.ascending
    (λ k. both_imply (among ns k) (among ms k) (failing_too chosen HoldsOn invs e ns ms a b k) (failing_too chosen HoldsOn invs e ms ns b a k))

-- ---- reasons

-- The number and the flows of a reason.
abbrev pub reason_parts : Reason → ℕ × List Flow
reason_parts r = (r.number, r.by.flows)

-- Two reasons at the same index have the same flows.
same_flows : {X : Type 0} (chosen : X → Bool) (HoldsOn : X → List Flow → Type 0) (invs : List X) (e : List Flow) (xs ys : List Reason) (k : ℕ) (d : Reason)
    → AreReasons chosen HoldsOn invs e xs → AreReasons chosen HoldsOn invs e ys → k < length xs → k < length ys
    → (get_or xs k d).number ≡ (get_or ys k d).number → (get_or xs k d).by.flows ≡ (get_or ys k d).by.flows
same_flows chosen HoldsOn invs e xs ys k d a b here there same =
    let number : Reason → ℕ = λ r. r.number in
    let within : k < length (map number xs) = omega (arith, here, length-map xs number) in
    let found = a.failing.failing (number (get_or xs k d))
    (subst (λ m. IsTrue (among (map number xs) m)) (get_or-map number xs k d (number d) here) (among-read (map number xs) k (number d) within)) in
    least_is_one (HoldsOn found.inv) e (get_or xs k d).by.flows (get_or ys k d).by.flows
    (a.least k d here found.inv found.place)
    (b.least k d there found.inv (subst (λ (n : ℕ). slice_get invs n ≡ Some found.inv) same found.place))

pub reasons_are_one : {X : Type 0} (chosen : X → Bool) (HoldsOn : X → List Flow → Type 0) (invs : List X) (e : List Flow) (xs ys : List Reason)
    → AreReasons chosen HoldsOn invs e xs → AreReasons chosen HoldsOn invs e ys → map reason_parts xs ≡ map reason_parts ys
reasons_are_one chosen HoldsOn invs e xs ys a b =
    let number : Reason → ℕ = λ r. r.number in
    let d : Reason = record { number = 0; by = record { size = 0; flows = [] } } in
    let numbers : map number xs ≡ map number ys = failing_is_one chosen HoldsOn invs e (map number xs) (map number ys) a.failing b.failing in
    let long : length xs ≡ length ys = sym (length-map xs number) ∙ ap length numbers ∙ length-map ys number in
    ext_get_or (reason_parts d) (map reason_parts xs) (map reason_parts ys) (length-map xs reason_parts ∙ long ∙ sym (length-map ys reason_parts))
    (λ k below.
    let here : k < length xs = omega (arith, below, length-map xs reason_parts) in
    let there : k < length ys = omega (arith, here, long) in
    let same : (get_or xs k d).number ≡ (get_or ys k d).number =
    sym (get_or-map number xs k d 0 here) ∙ ap (λ (ns : List ℕ). get_or ns k 0) numbers ∙ get_or-map number ys k d 0 there in
    let flows : (get_or xs k d).by.flows ≡ (get_or ys k d).by.flows = same_flows chosen HoldsOn invs e xs ys k d a b here there same in
    get_or-map reason_parts xs k d (reason_parts d) here ∙ (λ i. (same i, flows i)) ∙ sym (get_or-map reason_parts ys k d (reason_parts d) there))

-- ---- findings

-- The flow and the numbers of a finding.
abbrev pub finding_parts : Finding → Flow × List ℕ
finding_parts x = (x.flow, x.by.items)

findings_at : (d : Finding) (Denies : Flow → List ℕ → Type 0) → ((f : Flow) (ns ms : List ℕ) → Denies f ns → Denies f ms → ns ≡ ms) → (wanted : List Flow) (xs ys : List Finding)
    → AreFindings Denies wanted xs → AreFindings Denies wanted ys → map finding_parts xs ≡ map finding_parts ys
findings_at d Denies one wanted xs ys a b =
    let flow : Finding → Flow = λ x. x.flow in
    let flows : map flow xs ≡ map flow ys = a.flows ∙ sym b.flows in
    let long : length xs ≡ length ys = sym (length-map xs flow) ∙ ap length flows ∙ length-map ys flow in
    ext_get_or (finding_parts d) (map finding_parts xs) (map finding_parts ys) (length-map xs finding_parts ∙ long ∙ sym (length-map ys finding_parts))
    (λ k below.
    let here : k < length xs = omega (arith, below, length-map xs finding_parts) in
    let there : k < length ys = omega (arith, here, long) in
    let same : (get_or xs k d).flow ≡ (get_or ys k d).flow =
    sym (get_or-map flow xs k d (flow d) here) ∙ ap (λ (fs : List Flow). get_or fs k (flow d)) flows ∙ get_or-map flow ys k d (flow d) there in
    let numbers : (get_or xs k d).by.items ≡ (get_or ys k d).by.items =
    one (get_or ys k d).flow (get_or xs k d).by.items (get_or ys k d).by.items
    (subst (λ (f : Flow). Denies f (get_or xs k d).by.items) same (a.each k d here)) (b.each k d there) in
    get_or-map finding_parts xs k d (finding_parts d) here ∙ (λ i. (same i, numbers i)) ∙ sym (get_or-map finding_parts ys k d (finding_parts d) there))

pub findings_are_one : (Denies : Flow → List ℕ → Type 0) → ((f : Flow) (ns ms : List ℕ) → Denies f ns → Denies f ms → ns ≡ ms) → (wanted : List Flow) (xs ys : List Finding)
    → AreFindings Denies wanted xs → AreFindings Denies wanted ys → map finding_parts xs ≡ map finding_parts ys
findings_are_one Denies one wanted [] [] a b = refl
findings_are_one Denies one wanted [] (y ∷ ys) a b = findings_at y Denies one wanted [] (y ∷ ys) a b
findings_are_one Denies one wanted (x ∷ xs) ys a b = findings_at x Denies one wanted (x ∷ xs) ys a b
