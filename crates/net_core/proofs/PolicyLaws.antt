-- Lemmas on policies: a network has at most one, inclusions between the sets, and flows that satisfy every invariant
-- are permitted unchanged.
use Rattle.std.proofs.Common.{◌≡◌, ℕ, Bool, true, false, List, [], Result, Ok, Err, IfOk, IsFalse, sym, ◌∙◌, subst}
use Rattle.net_core.specs.Network.{Network}
use Rattle.net_core.specs.inner.Fitting.{IsNetwork}
use Rattle.permit_core.proofs.FirstLaws.{first_of_nothing, first_unique, first_whole}
use Rattle.flow_set.specs.laws.FlowLaws.{set_ext}
use Rattle.flow_set.specs.Conditions.{IsFirst}
use Rattle.flow_set.specs.FlowSet.{IsSubset, SetOfFlows, with_back}
use Rattle.flow_set.proofs.SubsetLaws.{nothing_within, subset_trans}
use Rattle.flow_set.specs.declared.flow.Flow.{Flow}
use Rattle.net_core.specs.Policies.{answerable, MeetsAll, MeetsStrict, IsStateful, Policy, IsPolicyOf}

-- ---- inclusions

pub answerable_within : (answers : Bool) (p s : List Flow) → IsSubset s (answerable answers p) → IsSubset s p
answerable_within true p s sub = sub
answerable_within false p s sub = subset_trans s [] p sub (nothing_within p)

-- A flow whose answers may pass is permitted itself.
pub IsSubset-stateful : (d : Network) (p s : List Flow) → IsStateful d p s → IsSubset s p
IsSubset-stateful d p s stateful = answerable_within d.answers p s stateful.within

-- If there are no answers, no flow is stateful.
pub none_stateful : {E : Type 0} (d : Network) (p : List Flow) (n : ℕ) (made : Result SetOfFlows E) → IsFalse d.answers → MeetsAll d p
    → IfOk made (λ set. set ≡ record { size = n; flows = [] }) → IfOk made (λ s. IsStateful d p s.flows)
none_stateful d p n (Ok set) none meets empty =
    let Holds : List Flow → Type 0 = λ answered. MeetsStrict d (with_back p answered) in
    subst (λ b. IsFirst Holds (answerable b p) set.flows) (sym none)
    (subst (λ (s : SetOfFlows). IsFirst Holds [] s.flows) (sym empty) (first_of_nothing Holds (λ k e within strict. meets k e within)))
none_stateful d p n (Err error) none meets empty = tt

-- ---- uniqueness

policy_ext : (p q : Policy) → p.permitted ≡ q.permitted → p.stateful ≡ q.stateful → p ≡ q
policy_ext p q permitted stateful = λ i. record { permitted = permitted i; stateful = stateful i }

stateful_is_one : (d : Network) (p s t : List Flow) → IsStateful d p s → IsStateful d p t → s ≡ t
stateful_is_one d p s t a b = first_unique (λ answered. MeetsStrict d (with_back p answered)) (answerable d.answers p) s t a b

pub policy_is_one : (d : Network) (p q : Policy) → IsPolicyOf d p → IsPolicyOf d q → p ≡ q
policy_is_one d p q a b =
    let same : p.permitted.flows ≡ q.permitted.flows =
    first_unique (MeetsAll d) d.asked.flows p.permitted.flows q.permitted.flows a.permitted b.permitted in
    policy_ext p q
    (set_ext p.permitted q.permitted (a.permitted_size ∙ sym b.permitted_size) same)
    (set_ext p.stateful q.stateful (a.stateful_size ∙ sym b.stateful_size)
    (stateful_is_one d q.permitted.flows p.stateful.flows q.stateful.flows (subst (λ (xs : List Flow). IsStateful d xs p.stateful.flows) same a.stateful) b.stateful))

-- ---- flows that satisfy every invariant are permitted unchanged

pub asked_is_permitted : (d : Network) (p : Policy) → IsNetwork d → MeetsAll d d.asked.flows → IsPolicyOf d p → p.permitted ≡ d.asked
asked_is_permitted d p network meets is_policy =
    set_ext p.permitted d.asked is_policy.permitted_size
    (first_whole (MeetsAll d) d.asked.flows p.permitted.flows network.asked.ordered is_policy.permitted meets)
