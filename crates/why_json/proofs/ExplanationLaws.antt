-- Laws of explanations: no denial lacks a reason, and reasons name invariants and flows of the network.
use Rattle.std.proofs.Common.{◌≡◌, ℕ, zero, suc, ◌<◌, length, get_or, arith, Bool, true, false, ◌||◌, inl, inr, List, [], ◌∷◌, map, refl, sym, ◌∙◌, ap, subst}
use Rattle.std.specs.Prelude.{All, IsTrue, IsFalse}
use Rattle.std.proofs.lemmas.Bool.{cases_Bool}
use Rattle.std.proofs.lemmas.Option.{get_or_from_slice_get, slice_get-get_or, slice_get_within}
use Rattle.std.proofs.lemmas.List.{get_or-map, length-map}
use Rattle.flow_set.specs.inner.FlowSetView.{IsFlowSet}
use Rattle.flow_set.proofs.SubsetLaws.{IsFlow-reverse_of, IsFlowSet-subset, IsFlowSet-with_back, IsFlowSet-with_flow}
use Rattle.inv_any.specs.declared.any_inv.AnyInv.{AnyInv}
use Rattle.explain_core.specs.Failing.{AreFailing, IsMinimalFailing, among}
use Rattle.explain_core.proofs.MinimalLaws.{within_without}
use Rattle.flow_set.specs.inner.Downward.{IsDownwardClosed}
use Rattle.inv_any.specs.Templates.{meaning_of}
use Rattle.inv_any.specs.laws.TemplateLaws.{lawful}
use Rattle.explain_core.specs.Findings.{AreFindings}
use Rattle.explain_core.specs.declared.finding.Finding.{Finding}
use Rattle.explain_core.proofs.NumberLaws.{among-read}
use Rattle.flow_set.specs.declared.flow.Flow.{Flow}
use Rattle.flow_set.specs.Flow.{IsFlow, reverse_of, same_flow}
use Rattle.flow_set.specs.FlowSet.{has, IsOrdered, IsSubset, with_flow, with_back}
use Rattle.flow_set.specs.laws.FlowLaws.{flows_ext, has_first, has_later, has_nothing, has-with_flow, has-with_back, or_swap, same_flow_back, same_flow_self, IsOrdered-with_flow, IsOrdered-with_back}
use Rattle.permit_core.specs.inner.Trials.{ChosenHold}
use Rattle.permit_core.proofs.FirstLaws.{first_with}
use Rattle.net_core.specs.Network.{Network}
use Rattle.net_core.specs.Policies.{IsPermitted, IsPolicyOf, IsStateful, Policy, MeetsStrict, answerable, holds_on, strategy_of, edge_mark}
use Rattle.explain_core.specs.declared.reason.Reason.{Reason}
use Rattle.explain_core.specs.Reasons.{AreReasons, DenyFlow, DenyAnswers}
use Rattle.state_core.specs.Stateful.{is_strict}
use Rattle.why_json.specs.Explanations.{HasReasons, IsExplanation, ReasonsHaveFlow}
use Rattle.why_json.specs.declared.explanation.Explanation.{Explanation}
use Rattle.why_json.specs.declared.standing.Standing.{Standing}
use Rattle.why_json.specs.inner.Fitting.{FitsExplanation, FitsFinding, FitsPair, FitsReason}

-- If there is no reason, all chosen invariants hold.
pub no_reason : {X : Type 0} (chosen : X → Bool) (HoldsOn : X → List Flow → Type 0) (invs : List X) (e : List Flow) (reasons : List Reason)
    → AreReasons chosen HoldsOn invs e reasons → reasons ≡ [] → ChosenHold chosen HoldsOn invs e
no_reason chosen HoldsOn invs e reasons are none =
    let failing = subst (λ (rs : List Reason). AreReasons chosen HoldsOn invs e rs) none are in
    λ k d below counts. failing.failing.others k _ (slice_get-get_or invs k d below) counts refl

-- The answers of the stateful flows with one flow more.
pub with_back-with_flow : (p s : List Flow) (f : Flow) → IsOrdered p → with_back p (with_flow s f) ≡ with_flow (with_back p s) (reverse_of f)
with_back-with_flow p s f o =
    flows_ext (with_back p (with_flow s f)) (with_flow (with_back p s) (reverse_of f))
    (IsOrdered-with_back p (with_flow s f) o) (IsOrdered-with_flow (with_back p s) (reverse_of f) (IsOrdered-with_back p s o))
    (λ g.
    has-with_back p (with_flow s f) g
    ∙ ap (λ b. has p g || b) (has-with_flow s f (reverse_of g))
    ∙ or_swap (has p g) (same_flow f (reverse_of g)) (has s (reverse_of g))
    ∙ ap (λ b. b || (has p g || has s (reverse_of g))) (sym (same_flow_back f g))
    ∙ ap (λ b. same_flow (reverse_of f) g || b) (sym (has-with_back p s g))
    ∙ sym (has-with_flow (with_back p s) (reverse_of f) g))

-- A flow that is requested and not permitted has a reason.
pub denied_explained : (d : Network) (p : List Flow) (f : Flow) (reasons : List Reason) → IsPermitted d p → DenyFlow holds_on d.invariants p f reasons
    → IsTrue (has d.asked.flows f) → IsFalse (has p f) → reasons ≡ [] → ⊥
denied_explained d p f reasons permitted deny asked left none =
    first_with _ d.asked.flows p f permitted asked left
    (λ k inv below. no_reason (λ _. true) holds_on d.invariants (with_flow p f) reasons deny none k inv below refl)

-- If flows may have answers, a permitted flow whose answers may not pass has a reason.
pub answers_denied_explained : (d : Network) (p s : List Flow) (f : Flow) (reasons : List Reason) → IsOrdered p → IsStateful d p s
    → DenyAnswers strategy_of edge_mark holds_on d.invariants p s f reasons
    → IsTrue d.answers → IsTrue (has p f) → IsFalse (has s f) → reasons ≡ [] → ⊥
answers_denied_explained d p s f reasons ordered stateful bar answers permitted left none =
    first_with (λ answered. MeetsStrict d (with_back p answered)) (answerable d.answers p) s f stateful
    (subst (λ b. IsTrue (has (answerable b p) f)) (sym answers) permitted) left
    (subst (MeetsStrict d) (sym (with_back-with_flow p s f ordered)) (no_reason _ holds_on d.invariants (with_flow (with_back p s) (reverse_of f)) reasons bar none))

-- Reasons name invariants of the list and flows between the hosts.
pub reasons_fit : {X : Type 0} (chosen : X → Bool) (HoldsOn : X → List Flow → Type 0) (invs : List X) (n : ℕ) (e : List Flow) (reasons : List Reason)
    → IsFlowSet n e → AreReasons chosen HoldsOn invs e reasons → All (λ r. (r.number < length invs) × IsFlowSet n r.by.flows) reasons
reasons_fit chosen HoldsOn invs n e reasons set are k d below =
    let number : Reason → ℕ = λ r. r.number in
    let there : k < length (map number reasons) = omega (arith, below, length-map reasons number) in
    let failing = are.failing.failing (number (get_or reasons k d))
    (subst (λ m. IsTrue (among (map number reasons) m)) (get_or-map number reasons k d (number d) below) (among-read (map number reasons) k (number d) there)) in (
      slice_get_within invs (number (get_or reasons k d)) failing.inv failing.place,
      IsFlowSet-subset n (get_or reasons k d).by.flows e set (are.minimal k d below failing.inv failing.place).within,
    )

pub reasons_of_network : (d : Network) (chosen : AnyInv → Bool) (e : List Flow) (reasons : List Reason) → IsFlowSet (length d.hosts) e
    → AreReasons chosen holds_on d.invariants e reasons → All (FitsReason d) reasons
reasons_of_network d chosen e reasons set are k r below =
    let fit = reasons_fit chosen holds_on d.invariants (length d.hosts) e reasons set are k r below in
    record { number = fit.0; flows = fit.1 }

-- The flows that may have answers are permitted.
answerable_within : (b : Bool) (p s : List Flow) → IsSubset s (answerable b p) → IsSubset s p
answerable_within true p s sub = sub
answerable_within false p s sub = record { ordered = sub.ordered; within = λ f there. has_nothing f (sub.within f there) }

-- The flow and the reasons of an explanation are of the network.
pub fits_explanation : (d : Network) (policy : Policy) (f : Flow) (x : Explanation) → IsFlowSet (length d.hosts) d.asked.flows → IsPolicyOf d policy
    → IsFlow (length d.hosts) f → IsExplanation d policy f x → FitsExplanation d x
fits_explanation d policy f x asked is_policy flow is =
    let n = length d.hosts in
    let p : List Flow = policy.permitted.flows in
    let s : List Flow = policy.stateful.flows in
    let permitted : IsFlowSet n p = IsFlowSet-subset n p d.asked.flows asked is_policy.permitted.within in
    let stateful : IsFlowSet n s = IsFlowSet-subset n s p permitted (answerable_within d.answers p s is_policy.stateful.within) in
    record {
      flow = subst (IsFlow n) (sym (ap (λ (y : Standing). y.flow) is.standing)) flow;
      denied_by = reasons_of_network d (λ _. true) (with_flow p f) x.denied_by.items (IsFlowSet-with_flow n p f permitted flow) is.denied;
      answers_denied_by =
          reasons_of_network d (λ inv. is_strict (strategy_of inv) (edge_mark inv)) (with_flow (with_back p s) (reverse_of f)) x.answers_denied_by.items
          (IsFlowSet-with_flow n (with_back p s) (reverse_of f) (IsFlowSet-with_back n p s permitted stateful) (IsFlow-reverse_of n f flow)) is.answers_denied;
    }

-- In an explanation no denial lacks a reason.
pub explained_reasons : (d : Network) (policy : Policy) (f : Flow) (x : Explanation) → IsPolicyOf d policy → IsExplanation d policy f x → HasReasons d x
explained_reasons d policy f x is_policy is =
    let p : List Flow = policy.permitted.flows in
    let s : List Flow = policy.stateful.flows in
    let asked : x.standing.asked ≡ has d.asked.flows f = ap (λ (y : Standing). y.asked) is.standing in
    let permitted : x.standing.permitted ≡ has p f = ap (λ (y : Standing). y.permitted) is.standing in
    let answered : x.standing.answered ≡ has s f = ap (λ (y : Standing). y.answered) is.standing in
    record {
      denied = λ asks left. denied_explained d p f x.denied_by.items is_policy.permitted is.denied (sym asked ∙ asks) (sym permitted ∙ left);
      answers_denied = λ answers permits left.
          answers_denied_explained d p s f x.answers_denied_by.items is_policy.permitted.within.ordered is_policy.stateful is.answers_denied answers
          (sym permitted ∙ permits) (sym answered ∙ left);
    }

-- A minimal failing set of a set with one flow more has this flow, if the condition holds on the set.
has_new_flow : (n : ℕ) (Holds : List Flow → Type 0) (p w : List Flow) (f : Flow) → IsDownwardClosed n Holds → IsFlowSet n p → Holds p
    → IsMinimalFailing Holds (with_flow p f) w → IsTrue (has w f)
has_new_flow n Holds p w f downward set holds minimal = elim (cases_Bool (has w f)) [
  | inl there ↦ there
  | inr absent ↦ absurd (minimal.fails (downward p w set (within_without p w f f minimal.within (same_flow_self f) absent) holds))
]

-- The sets of all reasons have the new flow, if the chosen invariants hold on the set before it.
reasons_have : (d : Network) (chosen : AnyInv → Bool) (p : List Flow) (f : Flow) (reasons : List Reason) → All (λ inv. (meaning_of inv).size ≡ length d.hosts) d.invariants
    → IsFlowSet (length d.hosts) p → ChosenHold chosen holds_on d.invariants p → AreReasons chosen holds_on d.invariants (with_flow p f) reasons
    → All (λ r. IsTrue (has r.by.flows f)) reasons
reasons_have d chosen p f reasons sizes set held are k r below =
    let number : Reason → ℕ = λ x. x.number in
    let x : Reason = get_or reasons k r in
    let there : k < length (map number reasons) = omega (arith, below, length-map reasons number) in
    let found = are.failing.failing (number x)
    (subst (λ m. IsTrue (among (map number reasons) m)) (get_or-map number reasons k r (number r) below) (among-read (map number reasons) k (number r) there)) in
    let inv : AnyInv = found.inv in
    let within : number x < length d.invariants = slice_get_within d.invariants (number x) inv found.place in
    let same : get_or d.invariants (number x) inv ≡ inv = get_or_from_slice_get d.invariants (number x) inv inv found.place in
    let size : (meaning_of inv).size ≡ length d.hosts = subst (λ (y : AnyInv). (meaning_of y).size ≡ length d.hosts) same (sizes (number x) inv within) in
    let holds : holds_on inv p =
    subst (λ (y : AnyInv). holds_on y p) same (held (number x) inv within (subst (λ (y : AnyInv). IsTrue (chosen y)) (sym same) found.counts)) in
    has_new_flow (length d.hosts) (holds_on inv) p x.by.flows f (subst (λ m. IsDownwardClosed m (holds_on inv)) size (lawful inv).downward) set holds
    (are.minimal k r below inv found.place)

pub reasons_have_flow : (d : Network) (policy : Policy) (f : Flow) (x : Explanation) → All (λ inv. (meaning_of inv).size ≡ length d.hosts) d.invariants
    → IsFlowSet (length d.hosts) d.asked.flows → IsPolicyOf d policy → IsExplanation d policy f x → ReasonsHaveFlow x
reasons_have_flow d policy f x sizes asked is_policy is =
    let n = length d.hosts in
    let p : List Flow = policy.permitted.flows in
    let s : List Flow = policy.stateful.flows in
    let permitted : IsFlowSet n p = IsFlowSet-subset n p d.asked.flows asked is_policy.permitted.within in
    let stateful : IsFlowSet n s = IsFlowSet-subset n s p permitted (answerable_within d.answers p s is_policy.stateful.within) in
    let flow : x.standing.flow ≡ f = ap (λ (y : Standing). y.flow) is.standing in
    record {
      denied = subst (λ (g : Flow). All (λ r. IsTrue (has r.by.flows g)) x.denied_by.items) (sym flow)
          (reasons_have d (λ _. true) p f x.denied_by.items sizes permitted (λ k inv below counts. is_policy.permitted.holds k inv below) is.denied);
      answers_denied = subst (λ (g : Flow). All (λ r. IsTrue (has r.by.flows (reverse_of g))) x.answers_denied_by.items) (sym flow)
          (reasons_have d (λ inv. is_strict (strategy_of inv) (edge_mark inv)) (with_back p s) (reverse_of f) x.answers_denied_by.items sizes
          (IsFlowSet-with_back n p s permitted stateful) is_policy.stateful.holds is.answers_denied);
    }

-- ---- findings

has-read : (fs : List Flow) (k : ℕ) (f : Flow) → k < length fs → IsTrue (has fs (get_or fs k f))
has-read [] k f below = absurd (omega (arith, below))
has-read (g ∷ gs) zero f below = has_first g gs
has-read (g ∷ gs) (suc k) f below = has_later g gs (get_or gs k f) (has-read gs k f (omega (arith, below)))

-- Findings name flows between the hosts and invariants of the network.
pub findings_of_network : (d : Network) (chosen : AnyInv → Bool) (with : Flow → List Flow) (wanted : List Flow) (found : List Finding)
    → IsFlowSet (length d.hosts) wanted → AreFindings (λ f. AreFailing chosen holds_on d.invariants (with f)) wanted found → All (FitsFinding d) found
findings_of_network d chosen with wanted found set are k x below =
    let flow : Finding → Flow = λ y. y.flow in
    let y = get_or found k x in
    let there : k < length (map flow found) = omega (arith, below, length-map found flow) in
    let member : IsTrue (has (map flow found) (flow y)) =
    subst (λ f. IsTrue (has (map flow found) f)) (get_or-map flow found k x (flow x) below) (has-read (map flow found) k (flow x) there) in
    record {
      flow = set.flows (flow y) (subst (λ (fs : List Flow). IsTrue (has fs (flow y))) are.flows member);
      by = λ j m within.
          let failing = (are.each k x below).failing (get_or y.by.items j m) (among-read y.by.items j m within) in
          slice_get_within d.invariants (get_or y.by.items j m) failing.inv failing.place;
    }

pub pairs_of_network : (d : Network) (policy : Policy) (chosen : AnyInv → Bool) (with : Flow → List Flow) (wanted : List Flow) (found : List Finding)
    → IsPolicyOf d policy → IsFlowSet (length d.hosts) wanted → AreFindings (λ f. AreFailing chosen holds_on d.invariants (with f)) wanted found → All (FitsPair d policy) found
pairs_of_network d policy chosen with wanted found is set are k x below = record { is_policy = is; finding = findings_of_network d chosen with wanted found set are k x below }
