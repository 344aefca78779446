-- Lemmas on flows that are not permitted: a policy is unchanged if a flow that an invariant denies by itself is added, and if a flow that
-- is not permitted is removed. This holds for all invariants, edge-wise or not.
use Rattle.std.proofs.Common.{◌≡◌, ℕ, inl, inr, not, List, [], ◌∷◌, sym, ap, subst, ◌∙◌}
use Rattle.std.specs.Prelude.{IsTrue, IsFalse}
use Rattle.std.proofs.lemmas.Bool.{and_from, both_ways, cases_Bool, or_cases}
use Rattle.flow_set.specs.Conditions.{IsFirst}
use Rattle.flow_set.specs.inner.Downward.{IsDownwardClosed}
use Rattle.flow_set.specs.Flow.{IsFlow, same_flow}
use Rattle.flow_set.specs.laws.FlowLaws.{has-with_flow, has-without_flow, same_fact, same_flow_sym}
use Rattle.flow_set.specs.FlowSet.{IsOrdered, IsSubset, has, with_flow}
use Rattle.flow_set.specs.inner.FlowSetView.{IsFlowSet, without_flow}
use Rattle.flow_set.proofs.SubsetLaws.{IsFlowSet-subset, IsFlowSet-with_flow, subset_trans, subset_without_flow}
use Rattle.flow_set.specs.declared.flow.Flow.{Flow}
use Rattle.inv_any.specs.laws.TemplateLaws.{lawful}
use Rattle.inv_any.specs.Templates.{meaning_of}
use Rattle.inv_any.specs.declared.any_inv.AnyInv.{AnyInv}
use Rattle.net_core.specs.inner.Asking.{asking_for, not_asking_for}
use Rattle.net_core.specs.inner.Fitting.{IsNetwork}
use Rattle.net_core.specs.Network.{Network}
use Rattle.net_core.specs.Policies.{IsPolicyOf, MeetsAll, Policy, holds_on}
use Rattle.permit_core.proofs.PolicyLaws.{AllHold-downward}
use Rattle.net_core.specs.inner.EdgePolicies.{IsAdmitted}
use Rattle.net_core.proofs.MarkedLaws.{alone, within_more}

-- ---- the first subset

-- A flow of the set differs from a flow that is not in it.
other_than : (xs : List Flow) (f g : Flow) → IsFalse (has xs f) → IsTrue (has xs g) → IsFalse (same_flow f g)
other_than xs f g absent there = elim (cases_Bool (same_flow f g)) [
  | inl same ↦ absurd (both_ways _ absent (same_fact (λ h. IsTrue (has xs h)) g f (sym (same_flow_sym f g) ∙ same) there))
  | inr other ↦ other
]

within_others : (xs all : List Flow) (f : Flow) → IsFalse (has xs f) → IsSubset xs all → IsSubset xs (without_flow all f)
within_others xs all f absent sub = record {
  ordered = sub.ordered;
  within = λ g there. has-without_flow all f g ∙ and_from _ _ (sub.within g there) (ap not (other_than xs f g absent there));
}

first_less : (Holds : List Flow → Type 0) (all xs : List Flow) (f : Flow) → IsOrdered all → IsFalse (has xs f) → IsFirst Holds all xs
    → IsFirst Holds (without_flow all f) xs
first_less Holds all xs f ordered absent is = record {
  within = within_others xs all f absent is.within;
  holds = is.holds;
  first = λ ys sub holds. is.first ys (subset_trans ys (without_flow all f) all sub (subset_without_flow all f ordered)) holds;
}

-- A set for which the condition holds does not contain a flow for which it fails.
lacks : (n : ℕ) (Holds : List Flow → Type 0) (ys : List Flow) (f : Flow) → IsDownwardClosed n Holds → IsFlowSet n ys → (Holds (f ∷ []) → ⊥) → Holds ys
    → IsFalse (has ys f)
lacks n Holds ys f downward set fails holds = elim (cases_Bool (has ys f)) [
  | inl there ↦ absurd (fails (downward ys (f ∷ []) set (alone ys f there) holds))
  | inr absent ↦ absent
]

within_old : (ys all : List Flow) (f : Flow) → IsFalse (has ys f) → IsSubset ys (with_flow all f) → IsSubset ys all
within_old ys all f absent sub = record {
  ordered = sub.ordered;
  within = λ g there. elim (or_cases _ _ (sym (has-with_flow all f g) ∙ sub.within g there)) [
    | inl same ↦ absurd (both_ways _ (other_than ys f g absent there) same)
    | inr old ↦ old
  ];
}

first_more : (n : ℕ) (Holds : List Flow → Type 0) (all xs : List Flow) (f : Flow) → IsDownwardClosed n Holds → IsFlowSet n (with_flow all f)
    → (Holds (f ∷ []) → ⊥) → IsFirst Holds all xs → IsFirst Holds (with_flow all f) xs
first_more n Holds all xs f downward set fails is = record {
  within = within_more xs all f is.within;
  holds = is.holds;
  first = λ ys sub holds.
      let absent = lacks n Holds ys f downward (IsFlowSet-subset n ys (with_flow all f) set sub) fails holds in
      is.first ys (within_old ys all f absent sub) holds;
}

-- ---- the policy

downward_at : (n : ℕ) (inv : AnyInv) → (meaning_of inv).size ≡ n → IsDownwardClosed n (holds_on inv)
downward_at n inv sized = subst (λ m. IsDownwardClosed m (holds_on inv)) sized (lawful inv).downward

meets_downward : (d : Network) → IsNetwork d → IsDownwardClosed d.asked.size (MeetsAll d)
meets_downward d network =
    AllHold-downward d.asked.size holds_on d.invariants (λ k inv within. downward_at d.asked.size _ (network.invariants k inv within ∙ sym network.sized))

-- A flow that is not permitted is removed.
pub policy_unpermitted : (d : Network) (policy : Policy) (f : Flow) → IsNetwork d → IsFalse (has policy.permitted.flows f) → IsPolicyOf d policy
    → IsPolicyOf (not_asking_for d f) policy
policy_unpermitted d policy f network absent is = record {
  permitted_size = is.permitted_size;
  stateful_size = is.stateful_size;
  permitted = first_less (MeetsAll d) d.asked.flows policy.permitted.flows f network.asked.ordered absent is.permitted;
  stateful = is.stateful;
}

-- A flow that some invariant denies by itself is added.
pub policy_denied : (d : Network) (policy : Policy) (f : Flow) → IsNetwork d → IsFlow d.asked.size f → (IsAdmitted d f → ⊥) → IsPolicyOf d policy
    → IsPolicyOf (asking_for d f) policy
policy_denied d policy f network flow denied is = record {
  permitted_size = is.permitted_size;
  stateful_size = is.stateful_size;
  permitted = first_more d.asked.size (MeetsAll d) d.asked.flows policy.permitted.flows f (meets_downward d network)
      (IsFlowSet-with_flow d.asked.size d.asked.flows f network.asked flow) denied is.permitted;
  stateful = is.stateful;
}
