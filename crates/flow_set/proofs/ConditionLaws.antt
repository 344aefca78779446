-- Lemmas on conditions on flow sets.
use Rattle.std.proofs.Common.{ℕ, inl, inr, List, [], ◌∷◌, sym, ◌∙◌}
use Rattle.std.specs.Prelude.{◌↔◌}
use Rattle.std.proofs.lemmas.Bool.{or_cases, or_left}
use Rattle.flow_set.specs.declared.flow.Flow.{Flow}
use Rattle.flow_set.specs.Flow.{IsFlow, same_flow}
use Rattle.flow_set.specs.FlowSet.{has, with_flow, with_back}
use Rattle.flow_set.specs.inner.FlowSetView.{IsFlowSet}
use Rattle.flow_set.specs.inner.Downward.{IsDownwardClosed, IsEdgeWise}
use Rattle.flow_set.specs.laws.FlowLaws.{has-with_flow, same_fact, same_flow_self}
use Rattle.flow_set.proofs.SubsetLaws.{IsFlowSet-with_flow, IsFlowSet-with_back, with_back_grows}

-- If an edge-wise condition holds for a set, it holds for one more flow individually if and only if it holds for the set with this flow.
pub edge_wise-with_flow : (n : ℕ) (Holds : List Flow → Type 0) (e : List Flow) (f : Flow) → IsEdgeWise n Holds → IsFlowSet n e
    → IsFlow n f → Holds e → Holds (f ∷ []) ↔ Holds (with_flow e f)
edge_wise-with_flow n Holds e f edge_wise set is_flow holds =
    let more : IsFlowSet n (with_flow e f) = IsFlowSet-with_flow n e f set is_flow in (
      λ alone. (edge_wise (with_flow e f) more).1
          (λ g there. elim (or_cases (same_flow f g) (has e g) (sym (has-with_flow e f g) ∙ there)) [
            | inl same ↦ same_fact (λ h. Holds (h ∷ [])) f g same alone
            | inr other ↦ (edge_wise e set).0 holds g other
          ]),
      λ together. (edge_wise (with_flow e f) more).0 together f (has-with_flow e f f ∙ or_left _ _ (same_flow_self f)),
    )

-- A condition on a fixed set with the reverse of some flows is preserved if fewer flows are reversed.
pub IsDownwardClosed-with_back : (n : ℕ) (Holds : List Flow → Type 0) (p : List Flow) → IsFlowSet n p → IsDownwardClosed n Holds
    → IsDownwardClosed n (λ s. Holds (with_back p s))
IsDownwardClosed-with_back n Holds p set downward e s within sub holds =
    downward (with_back p e) (with_back p s) (IsFlowSet-with_back n p e set within) (with_back_grows p s e set.ordered sub) holds
