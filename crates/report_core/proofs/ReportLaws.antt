-- Lemmas on reports: a network has one report of each kind, so the description determines the text; and removing the flows in a finding
-- restores the invariant.
use Rattle.std.proofs.Common.{◌≡◌, ℕ, zero, suc, ◌<◌, List, [], ◌∷◌, Option, None, Some, inl, inr, take, length, refl, sym, ◌∙◌, ap, subst, arith}
use Rattle.std.specs.List.{AllZip}
use Rattle.std.specs.Prelude.{◌↔◌, IfSome, IsNone, option_map, slice_get}
use Rattle.std.proofs.lemmas.Bool.{cases_lt, false≢true}
use Rattle.std.proofs.lemmas.Option.{get_or_from_slice_get, slice_get_within}
use Rattle.net_core.specs.Network.{Network}
use Rattle.flow_set.specs.EveryFlow.{every_flow}
use Rattle.permit_core.proofs.FirstLaws.{first_unique, first_offending}
use Rattle.flow_set.specs.Conditions.{IsFirst, IsMinimalOffending}
use Rattle.flow_set.specs.FlowSet.{SetOfFlows, IsOrdered, without, with_flow}
use Rattle.flow_set.specs.declared.flow.Flow.{Flow}
use Rattle.inv_any.specs.declared.any_inv.AnyInv.{AnyInv}
use Rattle.permit_core.specs.Policy.{IsFirstFailing}
use Rattle.net_core.specs.Policies.{Policy, holds_on}
use Rattle.net_core.proofs.PolicyLaws.{policy_is_one}
use Rattle.report_core.specs.CheckReport.{IsViolation, AreViolations, check_text, IsCheckReport}
use Rattle.report_core.specs.PolicyReport.{IsFlowStatus, policy_text, IsPolicyReport, FlowStatus, Answered, Allowed, NotAsked, Denied}
use Rattle.report_core.proofs.ZipLaws.{zip_once}

-- ---- the report of the invariants

offence_is_one : (Holds : List Flow → Type 0) (asked : List Flow) (o p : Option (List Flow)) → IsViolation Holds asked o
    → IsViolation Holds asked p → o ≡ p
offence_is_one Holds asked None None a b = refl
offence_is_one Holds asked None (Some ys) a b = absurd (b.0 a)
offence_is_one Holds asked (Some xs) None a b = absurd (a.0 b)
offence_is_one Holds asked (Some xs) (Some ys) (fails, (first, is_first, rest)) (fails', (first', is_first', rest')) =
    ap Some (rest ∙ ap (without asked) (first_unique Holds asked first first' is_first is_first') ∙ sym rest')

-- The finding for an invariant that fails is a minimal offending set: the invariant holds without these flows, and none of them can be
-- retained.
pub offence_is_minimal : (Holds : List Flow → Type 0) (asked offending : List Flow) → IsOrdered asked
    → IsViolation Holds asked (Some offending) → IsMinimalOffending Holds asked offending
offence_is_minimal Holds asked offending ordered (fails, (first, is_first, rest)) =
    subst (IsMinimalOffending Holds asked) (sym rest) (first_offending Holds asked first ordered is_first fails)

found_by_cases : (Holds : List Flow → Type 0) (asked : List Flow) (found : Option SetOfFlows) → (IsNone found ↔ Holds asked) → IfSome found (λ f. (first : List Flow) × IsFirst Holds asked first × (f.flows ≡ without asked first)) → IsViolation Holds asked (option_map (λ set. set.flows) found)
found_by_cases Holds asked None holds rest = holds.0 refl
found_by_cases Holds asked (Some f) holds rest = (λ met. absurd (false≢true (sym (holds.1 met))), rest)

-- The finding for an invariant on the flows that were read is the finding on the requested flows.
pub offence_found : (Holds : List Flow → Type 0) (asked read : SetOfFlows) (found : Option SetOfFlows) → read ≡ asked → (IsNone found ↔ Holds read.flows) → IfSome found (λ f. (first : List Flow) × IsFirst Holds read.flows first × (f.flows ≡ without read.flows first)) → IsViolation Holds asked.flows (option_map (λ set. set.flows) found)
offence_found Holds asked read found same holds rest =
    subst (λ (s : SetOfFlows). IsViolation Holds s.flows (option_map (λ set. set.flows) found)) same (found_by_cases Holds read.flows found holds rest)

pub offences_are_one : (invs : List AnyInv) (asked : List Flow) (os ps : List (Option (List Flow))) → AreViolations invs asked os
    → AreViolations invs asked ps → os ≡ ps
offences_are_one invs asked = zip_once (λ (inv : AnyInv). IsViolation (holds_on inv) asked) (λ inv. offence_is_one (holds_on inv) asked) invs

pub check_report_is_one : (d : Network) (a b : List ℕ) → IsCheckReport d a → IsCheckReport d b → a ≡ b
check_report_is_one d a b p q =
    p.written
    ∙ ap (check_text d.hosts d.invariants) (offences_are_one d.invariants d.asked.flows p.offences q.offences p.found q.found)
    ∙ sym q.written

-- ---- the report of the policy

-- An element before an index is in the prefix up to it.
in_front : {X : Type 0} → (xs : List X) (n m : ℕ) (x : X) → n < m → slice_get xs n ≡ Some x → slice_get (take m xs) n ≡ Some x
in_front [] n m x early there = cc
in_front (y ∷ ys) zero zero x early there = absurd (omega arith)
in_front (y ∷ ys) zero (suc m) x early there = there
in_front (y ∷ ys) (suc n) zero x early there = absurd (omega arith)
in_front (y ∷ ys) (suc n) (suc m) x early there = in_front ys n m x (omega arith) there

-- No invariant fails before the first that does.
none_earlier : {X : Type 0} (HoldsOn : X → List Flow → Type 0) (invs : List X) (e : List Flow) (n m : ℕ)
    → IsFirstFailing HoldsOn invs e n → IsFirstFailing HoldsOn invs e m → n < m → ⊥
none_earlier HoldsOn invs e n m a b early =
    let there : slice_get (take m invs) n ≡ Some a.inv = in_front invs n m a.inv early a.place in
    a.fails (subst (λ inv. HoldsOn inv e) (get_or_from_slice_get (take m invs) n a.inv a.inv there) (b.earlier n a.inv (slice_get_within (take m invs) n a.inv there)))

-- The first invariant that fails has a unique number.
first_failing_is_one : {X : Type 0} (HoldsOn : X → List Flow → Type 0) (invs : List X) (e : List Flow) (n m : ℕ)
    → IsFirstFailing HoldsOn invs e n → IsFirstFailing HoldsOn invs e m → n ≡ m
first_failing_is_one HoldsOn invs e n m a b = elim (cases_lt n m) [
  | inl early ↦ absurd (none_earlier HoldsOn invs e n m a b early)
  | inr not_early ↦ elim (cases_lt m n) [
    | inl late ↦ absurd (none_earlier HoldsOn invs e m n b a late)
    | inr not_late ↦ omega arith
  ]
]

ruling_is_one : (d : Network) (policy : Policy) (f : Flow) (r s : FlowStatus) → IsFlowStatus d policy f r → IsFlowStatus d policy f s → r ≡ s
ruling_is_one d policy f Answered s a b = sym (b.answered.1 (a.answered.0 refl))
ruling_is_one d policy f NotAsked s a b = sym (b.not_asked.1 (a.not_asked.0 refl))
ruling_is_one d policy f Allowed s a b = elim (b.allowed.1 (a.allowed.0 (inr refl))) [
  | inl answered ↦ a.answered.1 (b.answered.0 answered) ∙ sym answered
  | inr allowed ↦ sym allowed
]
ruling_is_one d policy f (Denied j) Answered a b = a.answered.1 (b.answered.0 refl)
ruling_is_one d policy f (Denied j) NotAsked a b = a.not_asked.1 (b.not_asked.0 refl)
ruling_is_one d policy f (Denied j) Allowed a b = elim (a.allowed.1 (b.allowed.0 (inr refl))) [ inl e ↦ cc | inr e ↦ e ]
ruling_is_one d policy f (Denied j) (Denied k) a b =
    ap Denied (first_failing_is_one holds_on d.invariants (with_flow policy.permitted.flows f) j k (a.denied j refl) (b.denied k refl))

pub policy_report_is_one : (d : Network) (a b : List ℕ) → IsPolicyReport d a → IsPolicyReport d b → a ≡ b
policy_report_is_one d a b p q =
    let flows : List Flow = every_flow (length d.hosts) in
    let same : p.policy ≡ q.policy = policy_is_one d p.policy q.policy p.is_policy q.is_policy in
    let found : AllZip (IsFlowStatus d q.policy) flows p.rulings = subst (λ (policy : Policy). AllZip (IsFlowStatus d policy) flows p.rulings) same p.found in
    p.written
    ∙ ap (policy_text d flows) (zip_once (IsFlowStatus d q.policy) (ruling_is_one d q.policy) flows p.rulings q.rulings found q.found)
    ∙ sym q.written
