-- Iteration over a set from position to position.
use Rattle.std.proofs.Common.{◌≡◌, ℕ, ◌+◌, ◌<◌, ◌≤◌, not, List, [], ◌∷◌, refl, sym, ◌∙◌, ap, subst, arith, inl, inr}
use Rattle.std.specs.Prelude.{IsTrue, IsFalse, Some, None}
use Rattle.std.proofs.lemmas.Bool.{both_ways, cases_Bool, not_from_true, not_from_false, cond-true, cond-false, cases_lt}
use Rattle.std.proofs.lemmas.Bool.Decides.{nat_tests}
use Rattle.flow_set.specs.declared.flow.Flow.{Flow}
use Rattle.flow_set.specs.Flow.{before}
use Rattle.flow_set.specs.FlowSet.{has, IsOrdered}
use Rattle.flow_set.specs.inner.FlowSetView.{first_from}
use Rattle.flow_set.specs.laws.FlowLaws.{same_flow-true, same_flow_from_order, filter_nothing, filter_everything, not_before_from}
use Rattle.flow_set.specs.laws.WalkLaws.{first_from_member, first_from_late, first_from_least, first_from_none}
use Rattle.std.specs.FinSet as set
use Rattle.flow_set.specs.inner.BitRows.{marks, flows_of, AreRows, flows_from, IsAsFar}
use Rattle.flow_set.proofs.BitRows.{marked_flow, has-flows_of, IsOrdered-rows_flows}
use Rattle.flow_set.specs.HostSet.{HostNumbers}
use Rattle.flow_set.specs.inner.HostSet.{row_of}
use Rattle.flow_set.specs.inner.Calls.{HasNone, IsFirstFrom}

-- ---- the first flow from a position on

pub first_from_found : (fs : List Flow) (p f : Flow) → IsOrdered fs → IsTrue (has fs f) → IsFalse (before f p)
    → ((g : Flow) → IsTrue (has fs g) → IsFalse (before g p) → IsFalse (before g f)) → first_from fs p ≡ Some f
first_from_found fs p f ordered there late least =
    elim (first_from fs p) as (λ o. first_from fs p ≡ o → first_from fs p ≡ Some f) [
      | None ↦ λ none. absurd (both_ways _ late (first_from_none fs p none f there))
      | Some h ↦ λ found.
          let same =
          same_flow_from_order h f (least h (first_from_member fs p h found) (first_from_late fs p h found))
          (first_from_least fs p h ordered found f there late) in
          found ∙ ap Some (same_flow-true h f same)
    ] refl

pub first_from_lost : (fs : List Flow) (p : Flow) → ((g : Flow) → IsTrue (has fs g) → IsTrue (before g p)) → first_from fs p ≡ None
first_from_lost fs p all =
    elim (first_from fs p) as (λ o. first_from fs p ≡ o → first_from fs p ≡ None) [
      | None ↦ λ none. none
      | Some h ↦ λ found. absurd (both_ways _ (first_from_late fs p h found) (all h (first_from_member fs p h found)))
    ] refl

-- ---- the remaining flows

at_start : (f : Flow) → IsFalse (before f (record { from = 0; to = 0 }))
at_start f = grind (arith, nat_tests)

pub flows_from-start : (fs : List Flow) → flows_from fs (record { from = 0; to = 0 }) ≡ fs
flows_from-start fs = filter_everything (λ f. not (before f (record { from = 0; to = 0 }))) fs (λ f there. not_from_false _ (at_start f))

pub flows_from-end : (fs : List Flow) (p : Flow) → first_from fs p ≡ None → flows_from fs p ≡ []
flows_from-end fs p none = filter_nothing (λ f. not (before f p)) fs (λ f there. not_from_true _ (first_from_none fs p none f there))

after_own : (f g : Flow) → IsTrue (before f g) → IsFalse (before g (record { from = f.from; to = f.to + 1 }))
after_own f g h = grind (arith, nat_tests)

own_is_before : (f : Flow) → IsTrue (before f (record { from = f.from; to = f.to + 1 }))
own_is_before f = grind (arith, nat_tests)

still_before : (f x p : Flow) → IsTrue (before x p) → IsFalse (before f p) → IsTrue (before x (record { from = f.from; to = f.to + 1 }))
still_before f x p early late = grind (arith, nat_tests)

-- All flows after a flow of a sorted set remain at a position that this flow is not before.
all_left : (x : Flow) (xs : List Flow) (p : Flow) → IsOrdered (x ∷ xs) → IsFalse (before x p) → flows_from xs p ≡ xs
all_left x xs p ordered late =
    filter_everything (λ f. not (before f p)) xs (λ f there. not_from_false _ (not_before_from x f p late (ordered.0 f there)))

all_after : (x : Flow) (xs : List Flow) → IsOrdered (x ∷ xs) → flows_from xs (record { from = x.from; to = x.to + 1 }) ≡ xs
all_after x xs ordered =
    filter_everything (λ f. not (before f (record { from = x.from; to = x.to + 1 }))) xs
    (λ f there. not_from_false _ (after_own x f (ordered.0 f there)))

pub flows_from-next : (fs : List Flow) (p f : Flow) → IsOrdered fs → first_from fs p ≡ Some f
    → flows_from fs p ≡ f ∷ flows_from fs (record { from = f.from; to = f.to + 1 })
flows_from-next [] p f ordered found = cc
flows_from-next (x ∷ xs) p f ordered found =
    elim (cases_Bool (before x p)) [
      | inl early ↦
          let later : first_from xs p ≡ Some f = sym (cond-false (not (before x p)) _ _ (not_from_true _ early)) ∙ found in
          let late : IsFalse (before f p) = first_from_late xs p f later in
          cond-false (not (before x p)) _ _ (not_from_true _ early)
          ∙ flows_from-next xs p f ordered.1 later
          ∙ ap (λ zs. f ∷ zs)
          (sym (cond-false (not (before x (record { from = f.from; to = f.to + 1 }))) _ _ (not_from_true _ (still_before f x p early late))))
      | inr late ↦
          let here : Some x ≡ Some f = sym (cond-true (not (before x p)) _ _ (not_from_false _ late)) ∙ found in
          let same : x ≡ f = cc in
          subst (λ (h : Flow). flows_from (x ∷ xs) p ≡ h ∷ flows_from (x ∷ xs) (record { from = h.from; to = h.to + 1 })) same
          (cond-true (not (before x p)) _ _ (not_from_false _ late)
          ∙ ap (λ zs. x ∷ zs) (all_left x xs p ordered late)
          ∙ ap (λ zs. x ∷ zs) (sym (cond-false (not (before x (record { from = x.from; to = x.to + 1 }))) _ _ (not_from_true _ (own_is_before x)) ∙ all_after x xs ordered)))
    ]

-- ---- an iteration over the rows

row_passed : (a b row start : ℕ) → (a ≡ row → b < start)
    → before (record { from = a; to = b }) (record { from = row; to = start }) ≡ before (record { from = a; to = b }) (record { from = row + 1; to = 0 })
row_passed a b row start small = grind (arith, nat_tests)

-- No flow remains in this row.
pub as_far_more : (n : ℕ) (rows : List HostNumbers) (p : Flow) (row start : ℕ) → AreRows n rows
    → IsAsFar (flows_of rows n) p (record { from = row; to = start }) → HasNone (set.contains (row_of rows row)) start 256
    → IsAsFar (flows_of rows n) p (record { from = row + 1; to = 0 })
as_far_more n rows p row start are far none g there =
    let shown : IsTrue (marks rows g) = sym (has-flows_of n rows g are) ∙ there in
    let within = marked_flow n rows g are shown in
    far g there ∙ row_passed g.from g.to row start (λ same. elim (cases_lt g.to start) [
      | inl small ↦ small
      | inr late ↦ absurd (both_ways _ (none g.to late (omega (arith, within.1, are.small))) (ap (λ i. set.contains (row_of rows i) g.to) (sym same) ∙ shown))
    ])

late_own : (row start first : ℕ) → start ≤ first → IsFalse (before (record { from = row; to = first }) (record { from = row; to = start }))
late_own row start first late = grind (arith, nat_tests)

not_earlier : (a b row start first : ℕ) → IsFalse (before (record { from = a; to = b }) (record { from = row; to = start }))
    → (a ≡ row → start ≤ b → first ≤ b) → IsFalse (before (record { from = a; to = b }) (record { from = row; to = first }))
not_earlier a b row start first late least = grind (arith, nat_tests)

-- The first remaining flow is in this row.
pub found_in_row : (n : ℕ) (rows : List HostNumbers) (p : Flow) (row start first : ℕ) → AreRows n rows
    → IsAsFar (flows_of rows n) p (record { from = row; to = start }) → IsFirstFrom (set.contains (row_of rows row)) start first
    → first_from (flows_of rows n) p ≡ Some (record { from = row; to = first })
found_in_row n rows p row start first are far is =
    let f : Flow = record { from = row; to = first } in
    let there : IsTrue (has (flows_of rows n) f) = has-flows_of n rows f are ∙ is.passes in
    first_from_found (flows_of rows n) p f (IsOrdered-rows_flows rows n n) there
    (far f there ∙ late_own row start first is.late)
    (λ g member late. not_earlier g.from g.to row start first (sym (far g member) ∙ late) (λ same from_start. elim (cases_lt g.to first) [
      | inl small ↦ absurd (both_ways _ (is.none_before g.to from_start small) (ap (λ i. set.contains (row_of rows i) g.to) (sym same) ∙ sym (has-flows_of n rows g are) ∙ member))
      | inr late ↦ late
    ]))

lower : (a b row start : ℕ) → a < row → IsTrue (before (record { from = a; to = b }) (record { from = row; to = start }))
lower a b row start below = grind (arith, nat_tests)

-- No flow remains after the last row.
pub none_in_rows : (n : ℕ) (rows : List HostNumbers) (p : Flow) (row start : ℕ) → AreRows n rows
    → IsAsFar (flows_of rows n) p (record { from = row; to = start }) → n ≤ row → first_from (flows_of rows n) p ≡ None
none_in_rows n rows p row start are far over =
    first_from_lost (flows_of rows n) p (λ g there.
    far g there ∙ lower g.from g.to row start (omega (arith, over, (marked_flow n rows g are (sym (has-flows_of n rows g are) ∙ there)).0)))
