-- Laws of weakenings: what a change of a network weakens is determined.
use Rattle.std.proofs.Common.{◌≡◌, inl, inr, suc, true, List, [], ◌∷◌, map, refl, sym, subst, arith}
use Rattle.std.specs.Prelude.{IsTrue}
use Rattle.std.specs.List.{All}
use Rattle.std.proofs.lemmas.Bool.Decides.{nat_tests}
use Rattle.change_core.specs.Weaker.{AreWeaker, ComesBefore, IsNewGap}
use Rattle.change_core.specs.declared.weaker.Weaker.{Weaker}
use Rattle.explain_core.proofs.LeastLaws.{both_imply}
use Rattle.explain_core.proofs.ReasonLaws.{failing_is_one, finding_parts}
use Rattle.explain_core.specs.Failing.{AreDenying}
use Rattle.explain_core.specs.declared.finding.Finding.{Finding}
use Rattle.flow_set.specs.Flow.{before}
use Rattle.flow_set.specs.FlowSet.{has, with_flow}
use Rattle.flow_set.specs.declared.flow.Flow.{Flow}
use Rattle.flow_set.specs.laws.FlowLaws.{flows_ext}
use Rattle.net_core.specs.Network.{Network, site_of}
use Rattle.net_core.specs.Policies.{Policy, holds_on}
use Rattle.changes_json.specs.WithoutExamples.{weakened_without_examples}
use Rattle.why_json.specs.WhyJson.{is_gap}
use Rattle.why_json.specs.Standings.{standing_of}
use Rattle.changes_json.specs.Weakening.{IsWeakening, flows_where, is_denied, is_free, is_gap_of}
use Rattle.changes_json.specs.declared.weakened.Weakened.{Weakened}
use Rattle.changes_json.specs.declared.weakening.Weakening.{Weakening}
use Rattle.changes_json.proofs.WeakeningOnceLaws.{denials_are_one, one_denied, one_free, same_flows_where}
use Rattle.range_json.proofs.OrderLaws.{one_order}

not_before : (f g : Flow) → IsTrue (before f g) → IsTrue (before g f) → ⊥
not_before f g low high = grind (arith, nat_tests)

not_back : (v w : Weaker) → ComesBefore v w → ComesBefore w v → ⊥
not_back v w (inl low) (inl high) = not_before v.flow w.flow low high
not_back v w (inl low) (inr (same, high)) = let both = subst (λ (f : Flow). IsTrue (before v.flow f)) same low in not_before v.flow v.flow both both
not_back v w (inr (same, low)) (inl high) = let both = subst (λ (f : Flow). IsTrue (before w.flow f)) same high in not_before w.flow w.flow both both
not_back v w (inr (same, low)) (inr (also, high)) = not_before v.old w.old low high

facts_alike : (d : Network) (policy : Policy) (xs ys : List Weakened) → map (λ x. x.flows) xs ≡ map (λ x. x.flows) ys
    → All (λ x. AreDenying holds_on d.invariants policy.permitted.flows x.flows.old x.denied_by.items) xs
    → All (λ x. AreDenying holds_on d.invariants policy.permitted.flows x.flows.old x.denied_by.items) ys → map weakened_without_examples xs ≡ map weakened_without_examples ys
facts_alike d policy [] [] same one other = refl
facts_alike d policy [] (y ∷ ys) same one other = cc same
facts_alike d policy (x ∷ xs) [] same one other = cc same
facts_alike d policy (x ∷ xs) (y ∷ ys) same one other =
    let p = policy.permitted.flows in
    let flows : x.flows ≡ y.flows = cc same in
    let later : map (λ z. z.flows) xs ≡ map (λ z. z.flows) ys = cc same in
    let numbers : x.denied_by.items ≡ y.denied_by.items =
    failing_is_one (λ _. true) holds_on d.invariants (with_flow p y.flows.old) x.denied_by.items y.denied_by.items
    (subst (λ (w : Weaker). AreDenying holds_on d.invariants p w.old x.denied_by.items) flows (one 0 x (omega arith))) (other 0 y (omega arith)) in
    let rest = facts_alike d policy xs ys later (λ k z low. one (suc k) z (omega (arith, low))) (λ k z low. other (suc k) z (omega (arith, low))) in
    λ i. (flows i, numbers i) ∷ rest i

module _ (old : Network) (before : Policy) (new : Network) (after : Policy) (v w : Weakening) (a : IsWeakening old before new after v)
    (b : IsWeakening old before new after w) where
  -- Two weakenings by one change have the same weaker flows, denied by the same invariants.
  pub weaker_are_alike : map weakened_without_examples v.weaker.items ≡ map weakened_without_examples w.weaker.items
  weaker_are_alike =
      let denied : flows_where is_denied a.old_denials ≡ flows_where is_denied b.old_denials =
      one_denied old before a.old_denials b.old_denials a.are_old_denials b.are_old_denials in
      let free : flows_where is_free a.denials ≡ flows_where is_free b.denials = one_free new after a.denials b.denials a.are_denials b.are_denials in
      let left : List Weaker = map (λ x. x.flows) v.weaker.items in
      let right : List Weaker = map (λ x. x.flows) w.weaker.items in
      let fd = flows_where is_denied b.old_denials in
      let ff = flows_where is_free b.denials in
      let one : AreWeaker (site_of old) fd (site_of new) ff left =
      subst (λ (fs : List Flow). AreWeaker (site_of old) fd (site_of new) fs left) free
      (subst (λ (fs : List Flow). AreWeaker (site_of old) fs (site_of new) (flows_where is_free a.denials) left) denied a.weaker) in
      let other : AreWeaker (site_of old) fd (site_of new) ff right = b.weaker in
      let same : left ≡ right =
      one_order ComesBefore not_back left right one.ascending other.ascending (λ x there. (other.exact x).1 ((one.exact x).0 there))
      (λ x there. (one.exact x).1 ((other.exact x).0 there)) in
      facts_alike old before v.weaker.items w.weaker.items same a.denied_by b.denied_by

  gaps_of : (d : Network) (policy : Policy) (xs ys : List Finding) → map finding_parts xs ≡ map finding_parts ys
      → flows_where (is_gap_of d policy) xs ≡ flows_where (is_gap_of d policy) ys
  gaps_of d policy xs ys same = same_flows_where (is_gap_of d policy) (λ parts. is_gap (standing_of d policy parts.0) parts.1) (λ x. refl) xs ys same

  -- They have the same new gaps.
  pub gaps_are_one : v.gaps.flows ≡ w.gaps.flows
  gaps_are_one =
      let old_same = gaps_of old before a.old_denials b.old_denials (denials_are_one old before a.old_denials b.old_denials a.are_old_denials b.are_old_denials) in
      let new_same = gaps_of new after a.denials b.denials (denials_are_one new after a.denials b.denials a.are_denials b.are_denials) in
      flows_ext v.gaps.flows w.gaps.flows a.ordered b.ordered (λ f. both_imply (has v.gaps.flows f) (has w.gaps.flows f)
      (λ there. (b.gaps f).1 (subst (λ (fs : List Flow). IsNewGap old.hosts fs new.hosts (flows_where (is_gap_of new after) b.denials) f) old_same
      (subst (λ (fs : List Flow). IsNewGap old.hosts (flows_where (is_gap_of old before) a.old_denials) new.hosts fs f) new_same ((a.gaps f).0 there))))
      (λ there. (a.gaps f).1 (subst (λ (fs : List Flow). IsNewGap old.hosts fs new.hosts (flows_where (is_gap_of new after) a.denials) f) (sym old_same)
      (subst (λ (fs : List Flow). IsNewGap old.hosts (flows_where (is_gap_of old before) b.old_denials) new.hosts fs f) (sym new_same) ((b.gaps f).0 there)))))
