-- Lemmas on policies that are decided flow by flow: they are the policies of networks with edge-wise invariants, and one more or one fewer
-- flow changes them only by that flow.
use Rattle.std.proofs.Common.{◌≡◌, ℕ, inl, inr, Bool, true, false, List, [], ◌∷◌, refl, sym, ◌∙◌, subst, All}
use Rattle.std.specs.Prelude.{◌↔◌, IsTrue, IsFalse}
use Rattle.std.proofs.lemmas.Bool.{false≢true, or_cases, or_left, or_right}
use Rattle.flow_set.specs.inner.Downward.{IsEdgeWise}
use Rattle.flow_set.specs.Flow.{IsFlow, reverse_of, same_flow}
use Rattle.flow_set.specs.FlowSet.{has, IsSubset, with_back, with_flow}
use Rattle.flow_set.specs.inner.FlowSetView.{IsFlowSet, without_flow}
use Rattle.flow_set.specs.laws.FlowLaws.{has_first, has_nothing, has-with_back, same_fact}
use Rattle.flow_set.proofs.SubsetLaws.{IsFlowSet-nothing, IsFlowSet-subset, IsFlowSet-with_back, IsFlowSet-with_flow}
use Rattle.flow_set.specs.declared.flow.Flow.{Flow}
use Rattle.inv_any.specs.laws.TemplateLaws.{lawful}
use Rattle.inv_any.specs.Templates.{meaning_of}
use Rattle.inv_any.specs.declared.any_inv.AnyInv.{AnyInv}
use Rattle.net_core.specs.inner.Asking.{asking_for, not_asking_for}
use Rattle.net_core.proofs.AskingLaws.{network_where}
use Rattle.net_core.specs.inner.Fitting.{IsNetwork}
use Rattle.net_core.specs.Network.{Network}
use Rattle.net_core.specs.Policies.{answerable, holds_on, edge_mark, IsPolicyOf, IsStateful, IsEdgeWiseNetwork, MeetsAll, MeetsStrict, Policy}
use Rattle.net_core.proofs.PolicyLaws.{answerable_within}
use Rattle.permit_core.proofs.PolicyLaws.{AllHold-edge_wise}
use Rattle.net_core.specs.inner.EdgePolicies.{AreMarked, IsAdmitted, IsAnswered, IsEdgePolicy}
use Rattle.net_core.proofs.MarkedLaws.{absent_from, first_marked, marked_first, marked_kept, marked_left, marked_out, within_both, within_less, within_more}

-- An invariant that is marked as edge-wise is edge-wise, at its own size.
pub edge_wise_at : (n : ℕ) (inv : AnyInv) → (meaning_of inv).size ≡ n → IsTrue (edge_mark inv) → IsEdgeWise n (holds_on inv)
edge_wise_at n inv sized marked = subst (λ m. IsEdgeWise m (holds_on inv)) sized ((lawful inv).mark_is_right marked)

pub each_edge_wise : (d : Network) → IsNetwork d → IsEdgeWiseNetwork d → All (λ inv. IsEdgeWise d.asked.size (holds_on inv)) d.invariants
each_edge_wise d network alone k e within = edge_wise_at d.asked.size _ (network.invariants k e within ∙ sym network.sized) (alone k e within)

pub all_edge_wise : (d : Network) → IsNetwork d → IsEdgeWiseNetwork d → IsEdgeWise d.asked.size (MeetsAll d)
all_edge_wise d network alone = AllHold-edge_wise d.asked.size holds_on d.invariants (each_edge_wise d network alone)

strict_edge_wise : (d : Network) → IsNetwork d → IsEdgeWiseNetwork d → IsEdgeWise d.asked.size (MeetsStrict d)
strict_edge_wise d network alone e set =
    (λ hold f there k x within strict. (each_edge_wise d network alone k x within e set).0 (hold k x within strict) f there, λ single k x within strict. (each_edge_wise d network alone k x within e set).1 (λ f there. single f there k x within strict))

strict_of_all : (d : Network) (e : List Flow) → MeetsAll d e → MeetsStrict d e
strict_of_all d e meets = λ k x within strict. meets k x within

-- ---- answers, one by one

one_flow : (n : ℕ) (p : List Flow) (f : Flow) → IsFlowSet n p → IsFlow n f → IsFlowSet n (f ∷ [])
one_flow n p f p_set flow = IsFlowSet-with_flow n [] f (IsFlowSet-nothing n p_set.small) flow

grown : (p e : List Flow) (f g : Flow) → IsTrue (has e f) → IsTrue (has (with_back p (f ∷ [])) g) → IsTrue (has (with_back p e) g)
grown p e f g there member = has-with_back p e g ∙ elim (or_cases (has p g) (has (f ∷ []) (reverse_of g)) (sym (has-with_back p (f ∷ []) g) ∙ member)) [
  | inl old ↦ or_left _ _ old
  | inr answer ↦ or_right _ _ (elim (or_cases (same_flow f (reverse_of g)) false answer) [
    | inl same ↦ same_fact (λ h. IsTrue (has e h)) f (reverse_of g) same there
    | inr impossible ↦ absurd (false≢true impossible)
  ])
]

-- The answer of a flow is a member of the policy with answers.
answer_there : (p : List Flow) (g : Flow) → IsTrue (has (with_back p (reverse_of g ∷ [])) g)
answer_there p g = has-with_back p (reverse_of g ∷ []) g ∙ or_right _ _ (has_first (reverse_of g) [])

answered_edge_wise : (n : ℕ) (Strict : List Flow → Type 0) (p : List Flow) → IsEdgeWise n Strict → IsFlowSet n p → Strict p
    → IsEdgeWise n (λ s. Strict (with_back p s))
answered_edge_wise n Strict p edge_wise p_set holds e set =
    let whole_set : IsFlowSet n (with_back p e) = IsFlowSet-with_back n p e p_set set in
    let set_of_one : (f : Flow) → IsTrue (has e f) → IsFlowSet n (with_back p (f ∷ [])) =
    λ f there. IsFlowSet-with_back n p (f ∷ []) p_set (one_flow n p f p_set (set.flows f there)) in (
      λ whole f there. (edge_wise (with_back p (f ∷ [])) (set_of_one f there)).1 (λ g member. (edge_wise (with_back p e) whole_set).0 whole g (grown p e f g there member)),
      λ single. (edge_wise (with_back p e) whole_set).1 (λ g member. elim (or_cases (has p g) (has e (reverse_of g)) (sym (has-with_back p e g) ∙ member)) [
        | inl old ↦ (edge_wise p p_set).0 holds g old
        | inr answer ↦ (edge_wise (with_back p (reverse_of g ∷ [])) (set_of_one (reverse_of g) answer)).0 (single (reverse_of g) answer) g (answer_there p g)
      ]),
    )

-- If an edge-wise condition holds for the policy, it holds with one answer if and only if it holds for that single
-- answer.
answer_alone : (n : ℕ) (Strict : List Flow → Type 0) (p : List Flow) (f : Flow) → IsEdgeWise n Strict → IsFlowSet n p → Strict p → IsFlow n f
    → Strict (with_back p (f ∷ [])) ↔ Strict (reverse_of f ∷ [])
answer_alone n Strict p f edge_wise p_set holds flow =
    let set : IsFlowSet n (with_back p (f ∷ [])) = IsFlowSet-with_back n p (f ∷ []) p_set (one_flow n p f p_set flow) in (
      λ whole. (edge_wise (with_back p (f ∷ [])) set).0 whole (reverse_of f) (has-with_back p (f ∷ []) (reverse_of f) ∙ or_right _ _ (has_first f [])),
      λ answer. (edge_wise (with_back p (f ∷ [])) set).1 (λ g member. elim (or_cases (has p g) (has (f ∷ []) (reverse_of g)) (sym (has-with_back p (f ∷ []) g) ∙ member)) [
        | inl old ↦ (edge_wise p p_set).0 holds g old
        | inr is ↦ elim (or_cases (same_flow f (reverse_of g)) false is) [
          | inl same ↦ same_fact (λ h. Strict (reverse_of h ∷ [])) f (reverse_of g) same answer
          | inr impossible ↦ absurd (false≢true impossible)
        ]
      ]),
    )

-- ---- the policy, in both directions

-- The flows that may have answers.
answerable_set : (answers : Bool) (n : ℕ) (p : List Flow) → IsFlowSet n p → IsFlowSet n (answerable answers p)
answerable_set true n p set = set
answerable_set false n p set = IsFlowSet-nothing n set.small

has_answerable : (answers : Bool) (p : List Flow) (f : Flow) → IsTrue (has (answerable answers p) f) → IsTrue (has p f)
has_answerable true p f there = there
has_answerable false p f there = has_nothing f there

marked_same : (P Q : Flow → Type 0) (all xs : List Flow) → ((f : Flow) → IsTrue (has all f) → P f → Q f) → ((f : Flow) → IsTrue (has all f) → Q f → P f)
    → AreMarked P all xs → AreMarked Q all xs
marked_same P Q all xs to from marked f there = (λ here. to f there ((marked f there).0 here), λ passes. (marked f there).1 (from f there passes))

-- A flow that may have answers is stateful if and only if its single answer passes.
module _ (d : Network) (p : List Flow) (edge_wise : IsEdgeWise d.asked.size (MeetsStrict d)) (set : IsFlowSet d.asked.size p) (holds : MeetsStrict d p) where
  one_answer : (f : Flow) → IsTrue (has (answerable d.answers p) f) → MeetsStrict d (with_back p (f ∷ [])) ↔ IsAnswered d f
  one_answer f there = answer_alone d.asked.size (MeetsStrict d) p f edge_wise set holds (set.flows f (has_answerable d.answers p f there))

  answered_by : (s : List Flow) → IsStateful d p s → AreMarked (IsAnswered d) (answerable d.answers p) s
  answered_by s is =
      marked_same (λ f. MeetsStrict d (with_back p (f ∷ []))) (IsAnswered d) (answerable d.answers p) s (λ f there. (one_answer f there).0) (λ f there. (one_answer f there).1)
      (first_marked d.asked.size (λ t. MeetsStrict d (with_back p t)) (answerable d.answers p) s (answerable_set d.answers d.asked.size p set) (answered_edge_wise d.asked.size (MeetsStrict d) p edge_wise set holds) is)

  stateful_by : (s : List Flow) → IsSubset s (answerable d.answers p) → AreMarked (IsAnswered d) (answerable d.answers p) s → IsStateful d p s
  stateful_by s sub are =
      marked_first d.asked.size (λ t. MeetsStrict d (with_back p t)) (answerable d.answers p) s (answerable_set d.answers d.asked.size p set) (answered_edge_wise d.asked.size (MeetsStrict d) p edge_wise set holds) sub
      (marked_same (IsAnswered d) (λ f. MeetsStrict d (with_back p (f ∷ []))) (answerable d.answers p) s (λ f there. (one_answer f there).1) (λ f there. (one_answer f there).0) are)

pub IsEdgePolicy-policy : (d : Network) (policy : Policy) → IsNetwork d → IsEdgeWiseNetwork d → IsPolicyOf d policy → IsEdgePolicy d policy
IsEdgePolicy-policy d policy network alone is =
    let p_set = IsFlowSet-subset d.asked.size policy.permitted.flows d.asked.flows network.asked is.permitted.within in
    record {
      permitted_size = is.permitted_size;
      stateful_size = is.stateful_size;
      permitted_within = is.permitted.within;
      stateful_within = is.stateful.within;
      permitted = first_marked d.asked.size (MeetsAll d) d.asked.flows policy.permitted.flows network.asked (all_edge_wise d network alone) is.permitted;
      stateful =
          answered_by d policy.permitted.flows (strict_edge_wise d network alone) p_set (strict_of_all d policy.permitted.flows is.permitted.holds)
          policy.stateful.flows is.stateful;
    }

pub policy-IsEdgePolicy : (d : Network) (policy : Policy) → IsNetwork d → IsEdgeWiseNetwork d → IsEdgePolicy d policy → IsPolicyOf d policy
policy-IsEdgePolicy d policy network alone is =
    let p_set = IsFlowSet-subset d.asked.size policy.permitted.flows d.asked.flows network.asked is.permitted_within in
    let permitted = marked_first d.asked.size (MeetsAll d) d.asked.flows policy.permitted.flows network.asked (all_edge_wise d network alone) is.permitted_within is.permitted in
    record {
      permitted_size = is.permitted_size;
      stateful_size = is.stateful_size;
      permitted = permitted;
      stateful =
          stateful_by d policy.permitted.flows (strict_edge_wise d network alone) p_set (strict_of_all d policy.permitted.flows permitted.holds)
          policy.stateful.flows is.stateful_within is.stateful;
    }

-- ---- one more flow, and one fewer

-- The invariants are those of the network, so admission of flows and answers is unchanged.
abbrev pub WithFlows : List Flow → List Flow → Policy → Policy
WithFlows permitted stateful policy = record {
  permitted = record { size = policy.permitted.size; flows = permitted };
  stateful = record { size = policy.stateful.size; flows = stateful };
}

not_there : (d : Network) (policy : Policy) (f : Flow) → IsFalse (has d.asked.flows f) → IsEdgePolicy d policy → IsFalse (has policy.permitted.flows f)
not_there d policy f fresh is = absent_from d.asked.flows policy.permitted.flows f is.permitted_within fresh

-- An admitted flow is permitted; its answers may pass if they are admitted.
pub admitted_more : (d : Network) (policy : Policy) (f : Flow) (s : List Flow) → IsFalse (has d.asked.flows f) → IsAdmitted d f → IsEdgePolicy d policy
    → IsSubset s (answerable d.answers (with_flow policy.permitted.flows f)) → AreMarked (IsAnswered d) (answerable d.answers (with_flow policy.permitted.flows f)) s
    → IsEdgePolicy (asking_for d f) (WithFlows (with_flow policy.permitted.flows f) s policy)
admitted_more d policy f s fresh admitted is within answered = record {
  permitted_size = is.permitted_size;
  stateful_size = is.stateful_size;
  permitted_within = within_both policy.permitted.flows d.asked.flows f is.permitted_within;
  stateful_within = within;
  permitted = marked_kept (IsAdmitted d) d.asked.flows policy.permitted.flows f admitted is.permitted;
  stateful = answered;
}

answered_within : (answers : Bool) (p s : List Flow) (f : Flow) → IsTrue answers → IsSubset s (answerable answers p)
    → IsSubset (with_flow s f) (answerable answers (with_flow p f))
answered_within true p s f on sub = within_both s p f sub
answered_within false p s f on sub = absurd (false≢true on)

answered_more : (answers : Bool) (Passes : Flow → Type 0) (p s : List Flow) (f : Flow) → IsTrue answers → Passes f → AreMarked Passes (answerable answers p) s
    → AreMarked Passes (answerable answers (with_flow p f)) (with_flow s f)
answered_more true Passes p s f on passes are = marked_kept Passes p s f passes are
answered_more false Passes p s f on passes are = absurd (false≢true on)

unanswered_within : (answers : Bool) (p s : List Flow) (f : Flow) → IsSubset s (answerable answers p) → IsSubset s (answerable answers (with_flow p f))
unanswered_within true p s f sub = within_more s p f sub
unanswered_within false p s f sub = sub

unanswered_more : (answers : Bool) (Passes : Flow → Type 0) (p s : List Flow) (f : Flow) → (IsTrue answers → Passes f → ⊥) → IsFalse (has s f)
    → AreMarked Passes (answerable answers p) s → AreMarked Passes (answerable answers (with_flow p f)) s
unanswered_more true Passes p s f fails absent are = marked_left Passes p s f (fails refl) absent are
unanswered_more false Passes p s f fails absent are = are

fewer_within : (answers : Bool) (p s : List Flow) (f : Flow) → IsSubset s (answerable answers p)
    → IsSubset (without_flow s f) (answerable answers (without_flow p f))
fewer_within true p s f sub = within_less s p f sub
fewer_within false p s f sub = within_less s [] f sub

answered_less : (answers : Bool) (Passes : Flow → Type 0) (p s : List Flow) (f : Flow) → AreMarked Passes (answerable answers p) s
    → AreMarked Passes (answerable answers (without_flow p f)) (without_flow s f)
answered_less true Passes p s f are = marked_out Passes p s f are
answered_less false Passes p s f are = marked_out Passes [] s f are

pub one_less : (d : Network) (policy : Policy) (f : Flow) → IsEdgePolicy d policy
    → IsEdgePolicy (not_asking_for d f) (WithFlows (without_flow policy.permitted.flows f) (without_flow policy.stateful.flows f) policy)
one_less d policy f is = record {
  permitted_size = is.permitted_size;
  stateful_size = is.stateful_size;
  permitted_within = within_less policy.permitted.flows d.asked.flows f is.permitted_within;
  stateful_within = fewer_within d.answers policy.permitted.flows policy.stateful.flows f is.stateful_within;
  permitted = marked_out (IsAdmitted d) d.asked.flows policy.permitted.flows f is.permitted;
  stateful = answered_less d.answers (IsAnswered d) policy.permitted.flows policy.stateful.flows f is.stateful;
}

-- ---- the policies themselves

-- A flow that is no longer requested.
pub policy_less : (d : Network) (policy : Policy) (f : Flow) → IsNetwork d → IsEdgeWiseNetwork d → IsFlow d.asked.size f → IsPolicyOf d policy
    → IsPolicyOf (not_asking_for d f) (WithFlows (without_flow policy.permitted.flows f) (without_flow policy.stateful.flows f) policy)
policy_less d policy f network alone flow is =
    policy-IsEdgePolicy (not_asking_for d f) (WithFlows (without_flow policy.permitted.flows f) (without_flow policy.stateful.flows f) policy)
    (network_where false d f flow network) alone (one_less d policy f (IsEdgePolicy-policy d policy network alone is))

-- A requested flow that is admitted, with its answers.
pub policy_answered : (d : Network) (policy : Policy) (f : Flow) → IsNetwork d → IsEdgeWiseNetwork d → IsFlow d.asked.size f → IsFalse (has d.asked.flows f)
    → IsAdmitted d f → IsTrue d.answers → IsAnswered d f → IsPolicyOf d policy
    → IsPolicyOf (asking_for d f) (WithFlows (with_flow policy.permitted.flows f) (with_flow policy.stateful.flows f) policy)
policy_answered d policy f network alone flow fresh admitted on answered is =
    let edge = IsEdgePolicy-policy d policy network alone is in
    policy-IsEdgePolicy (asking_for d f) (WithFlows (with_flow policy.permitted.flows f) (with_flow policy.stateful.flows f) policy)
    (network_where true d f flow network) alone
    (admitted_more d policy f (with_flow policy.stateful.flows f) fresh admitted edge
    (answered_within d.answers policy.permitted.flows policy.stateful.flows f on edge.stateful_within)
    (answered_more d.answers (IsAnswered d) policy.permitted.flows policy.stateful.flows f on answered edge.stateful))

-- Without its answers.
pub policy_unanswered : (d : Network) (policy : Policy) (f : Flow) → IsNetwork d → IsEdgeWiseNetwork d → IsFlow d.asked.size f → IsFalse (has d.asked.flows f)
    → IsAdmitted d f → (IsTrue d.answers → IsAnswered d f → ⊥) → IsPolicyOf d policy
    → IsPolicyOf (asking_for d f) (WithFlows (with_flow policy.permitted.flows f) policy.stateful.flows policy)
policy_unanswered d policy f network alone flow fresh admitted unanswered is =
    let edge = IsEdgePolicy-policy d policy network alone is in
    let absent = absent_from policy.permitted.flows policy.stateful.flows f (answerable_within d.answers policy.permitted.flows policy.stateful.flows edge.stateful_within) (not_there d policy f fresh edge) in
    policy-IsEdgePolicy (asking_for d f) (WithFlows (with_flow policy.permitted.flows f) policy.stateful.flows policy)
    (network_where true d f flow network) alone
    (admitted_more d policy f policy.stateful.flows fresh admitted edge
    (unanswered_within d.answers policy.permitted.flows policy.stateful.flows f edge.stateful_within)
    (unanswered_more d.answers (IsAnswered d) policy.permitted.flows policy.stateful.flows f unanswered absent edge.stateful))
