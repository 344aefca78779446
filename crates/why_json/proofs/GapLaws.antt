-- Laws of gaps: the first subset with one flow more, and that a gap would be permitted.
use Rattle.std.proofs.Common.{◌≡◌, ℕ, true, not, ◌||◌, ◌&&◌, inl, inr, List, [], ◌∷◌, length, get_or, refl, sym, ◌∙◌, ap, subst, arith}
use Rattle.std.specs.Prelude.{All, IsTrue, IsFalse}
use Rattle.std.proofs.Math.Bool.{and-true}
use Rattle.std.proofs.lemmas.Bool.{and_parts, both_ways, cases_Bool, eqb-true, not-true, or_cases, or_left, or_right}
use Rattle.std.proofs.lemmas.Option.{slice_get-get_or}
use Rattle.flow_set.specs.declared.flow.Flow.{Flow}
use Rattle.flow_set.specs.Conditions.{PrecedesAtFirstDifference, IsFirst}
use Rattle.flow_set.specs.EveryFlow.{every_flow}
use Rattle.flow_set.specs.Flow.{IsFlow, before, same_flow}
use Rattle.flow_set.specs.FlowSet.{has, IsSubset, with_flow}
use Rattle.flow_set.specs.inner.Downward.{IsDownwardClosed}
use Rattle.flow_set.specs.inner.FlowSetView.{IsFlowSet, without_flow}
use Rattle.flow_set.specs.laws.FlowLaws.{after_not_same, before_trans, has-with_flow, has-without_flow, same_fact, same_flow_self, with_flow-without_flow, IsOrdered-with_flow, IsOrdered-without_flow}
use Rattle.flow_set.proofs.EveryFlowLaws.{IsFlowSet-every_flow}
use Rattle.flow_set.proofs.SubsetLaws.{IsFlowSet-subset, IsFlowSet-with_flow, subset_without_flow}
use Rattle.permit_core.specs.Policy.{AllHold}
use Rattle.permit_core.proofs.PolicyLaws.{AllHold-downward}
use Rattle.inv_any.specs.Templates.{meaning_of}
use Rattle.inv_any.specs.declared.any_inv.AnyInv.{AnyInv}
use Rattle.inv_any.specs.laws.TemplateLaws.{lawful}
use Rattle.net_core.specs.Network.{Network}
use Rattle.net_core.specs.Policies.{IsPermitted, IsPolicyOf, MeetsAll, Policy, holds_on}
use Rattle.explain_core.specs.Failing.{AreDenying, among}
use Rattle.explain_core.specs.Findings.{AreDenials}
use Rattle.explain_core.specs.declared.finding.Finding.{Finding}
use Rattle.why_json.specs.Gaps.{GapsArePermitted, asking_too}
use Rattle.why_json.specs.WhyJson.{is_gap}
use Rattle.why_json.specs.Standings.{standing_of}
use Rattle.why_json.proofs.ExplanationLaws.{findings_of_network}

-- ---- the first subset with one flow more

-- Two sets that agree on a flow without f still agree on it with f.
agree : (p ys : List Flow) (f g : Flow) → IsFalse (same_flow f g) → has p g ≡ has (without_flow ys f) g → has (with_flow p f) g ≡ has ys g
agree p ys f g other same =
    has-with_flow p f g
    ∙ ap (λ b. b || has p g) other
    ∙ same
    ∙ has-without_flow ys f g
    ∙ ap (λ b. has ys g && not b) other
    ∙ and-true (has ys g)

rest_within : (ys all : List Flow) (f : Flow) → IsSubset ys (with_flow all f) → IsSubset (without_flow ys f) all
rest_within ys all f sub = record {
  ordered = IsOrdered-without_flow ys f sub.ordered;
  within = λ g there.
      let parts = and_parts (has ys g) (not (same_flow f g)) (sym (has-without_flow ys f g) ∙ there) in
      elim (or_cases (same_flow f g) (has all g) (sym (has-with_flow all f g) ∙ sub.within g parts.0)) [
        | inl same ↦ absurd (both_ways _ (not-true (same_flow f g) parts.1) same)
        | inr old ↦ old
      ];
}

-- A flow of p is another than f, which p lacks.
other_flow : (all p : List Flow) (f h : Flow) → IsSubset p all → IsFalse (has all f) → IsTrue (has p h) → IsFalse (same_flow f h)
other_flow all p f h sub absent there = elim (cases_Bool (same_flow f h)) [
  | inl same ↦ absurd (both_ways _ (same_fact (λ k. IsFalse (has all k)) f h same absent) (sub.within h there))
  | inr other ↦ other
]

-- A set that differs first from p without f differs first from p with f.
differs_first : (all p ys : List Flow) (f : Flow) → IsSubset p all → IsFalse (has all f) → PrecedesAtFirstDifference p (without_flow ys f) → PrecedesAtFirstDifference (with_flow p f) ys
differs_first all p ys f sub absent d =
    let h = d.flow in
    let other : IsFalse (same_flow f h) = other_flow all p f h sub absent d.here in
    let lacks_h : IsFalse (has ys h) = sym (has-without_flow ys f h ∙ ap (λ b. has ys h && not b) other ∙ and-true (has ys h)) ∙ d.not_there in
    let has_f : IsTrue (has (with_flow p f) f) = has-with_flow p f f ∙ or_left _ _ (same_flow_self f) in
    let has_h : IsTrue (has (with_flow p f) h) = has-with_flow p f h ∙ or_right _ _ d.here in
    elim (cases_Bool (has ys f)) [
      | inl there ↦ record {
        flow = h;
        here = has_h;
        not_there = lacks_h;
        same_before = λ g early. elim (cases_Bool (same_flow f g)) [
          | inl same ↦ (has-with_flow p f g ∙ or_left _ _ same) ∙ sym (same_fact (λ k. IsTrue (has ys k)) f g same there)
          | inr differs ↦ agree p ys f g differs (d.same_before g early)
        ];
      }
      | inr lacks ↦ elim (cases_Bool (before f h)) [
        | inl first ↦ record {
          flow = f;
          here = has_f;
          not_there = lacks;
          same_before = λ g early. agree p ys f g (after_not_same g f early) (d.same_before g (before_trans g f h early first));
        }
        | inr later ↦ record {
          flow = h;
          here = has_h;
          not_there = lacks_h;
          same_before = λ g early. elim (cases_Bool (same_flow f g)) [
            | inl same ↦ absurd (both_ways _ later (same_fact (λ k. IsTrue (before k h) → IsTrue (before f h)) f g same (λ e. e) early))
            | inr differs ↦ agree p ys f g differs (d.same_before g early)
          ];
        }
      ]
    ]

-- If the condition holds on the first subset with one flow more, this is the first subset of all flows with this one.
first_with_new : (n : ℕ) (Holds : List Flow → Type 0) (all p : List Flow) (f : Flow) → IsDownwardClosed n Holds → IsFlowSet n (with_flow all f) → IsFirst Holds all p
    → IsFalse (has all f) → Holds (with_flow p f) → IsFirst Holds (with_flow all f) (with_flow p f)
first_with_new n Holds all p f downward set is absent holds = record {
  within = record {
    ordered = IsOrdered-with_flow p f is.within.ordered;
    within = λ g there. elim (or_cases (same_flow f g) (has p g) (sym (has-with_flow p f g) ∙ there)) [
      | inl same ↦ has-with_flow all f g ∙ or_left _ _ same
      | inr old ↦ has-with_flow all f g ∙ or_right _ _ (is.within.within g old)
    ];
  };
  holds = holds;
  first = λ ys sub meets.
      let less : Holds (without_flow ys f) =
      downward ys (without_flow ys f) (IsFlowSet-subset n ys (with_flow all f) set sub) (subset_without_flow ys f sub.ordered) meets in
      elim (is.first (without_flow ys f) (rest_within ys all f sub) less) [
        | inr d ↦ inr (differs_first all p ys f is.within absent d)
        | inl same ↦ elim (cases_Bool (has ys f)) [
          | inl there ↦ inl (sym (with_flow-without_flow ys f sub.ordered there) ∙ ap (λ xs. with_flow xs f) same)
          | inr lacks ↦ inr (record {
            flow = f;
            here = has-with_flow p f f ∙ or_left _ _ (same_flow_self f);
            not_there = lacks;
            same_before = λ g early. agree p ys f g (after_not_same g f early) (ap (λ xs. has xs g) (sym same));
          })
        ]
      ];
}

-- ---- gaps

downward_at : (n : ℕ) (inv : AnyInv) → (meaning_of inv).size ≡ n → IsDownwardClosed n (holds_on inv)
downward_at n inv sized = subst (λ m. IsDownwardClosed m (holds_on inv)) sized (lawful inv).downward

no_numbers : (ns : List ℕ) → length ns ≡ 0 → ns ≡ []
no_numbers [] none = refl
no_numbers (n ∷ ns) none = absurd (omega (arith, none))

gap_permitted : (d : Network) (policy : Policy) (f : Flow) (numbers : List ℕ) → All (λ inv. (meaning_of inv).size ≡ length d.hosts) d.invariants
    → IsFlowSet (length d.hosts) d.asked.flows → IsPolicyOf d policy → IsFlow (length d.hosts) f
    → AreDenying holds_on d.invariants policy.permitted.flows f numbers → IsTrue (is_gap (standing_of d policy f) numbers)
    → IsPermitted (asking_too d f) (with_flow policy.permitted.flows f)
gap_permitted d policy f numbers sizes asked is flow denying gap =
    let n = length d.hosts in
    let p : List Flow = policy.permitted.flows in
    let parts = and_parts _ _ gap in
    let absent : IsFalse (has d.asked.flows f) = not-true (has d.asked.flows f) parts.0 in
    let none : numbers ≡ [] = no_numbers numbers (eqb-true (length numbers) 0 parts.1) in
    let held : AllHold holds_on d.invariants (with_flow p f) =
    λ k inv below. denying.others k (get_or d.invariants k inv) (slice_get-get_or d.invariants k inv below) refl (ap (λ (ns : List ℕ). among ns k) none) in
    first_with_new n (MeetsAll d) d.asked.flows p f
    (AllHold-downward n holds_on d.invariants (λ k inv below. downward_at n (get_or d.invariants k inv) (sizes k inv below)))
    (IsFlowSet-with_flow n d.asked.flows f asked flow) is.permitted absent held

pub gaps_permitted : (d : Network) (policy : Policy) (found : List Finding) → All (λ inv. (meaning_of inv).size ≡ length d.hosts) d.invariants
    → IsFlowSet (length d.hosts) d.asked.flows → IsPolicyOf d policy → AreDenials holds_on d.invariants (every_flow (length d.hosts)) policy.permitted.flows found
    → GapsArePermitted d policy found
gaps_permitted d policy found sizes asked is are k x below =
    let fits =
    findings_of_network d (λ _. true) (with_flow policy.permitted.flows) (every_flow (length d.hosts)) found (IsFlowSet-every_flow (length d.hosts) asked.small) are k x below in
    gap_permitted d policy (get_or found k x).flow (get_or found k x).by.items sizes asked is fits.flow (are.each k x below)
