-- Properties of a network's policy that follow from its definition: it is the greatest if every invariant is edge-wise,
-- and with its answers it complies with every invariant.
use Rattle.std.proofs.Common.{ℕ, List, sym, ◌∙◌, get_or}
use Rattle.net_core.specs.Network.{Network}
use Rattle.net_core.specs.inner.Fitting.{IsNetwork}
use Rattle.permit_core.proofs.FirstLaws.{first_greatest}
use Rattle.flow_set.specs.FlowSet.{IsSubset}
use Rattle.flow_set.specs.inner.FlowSetView.{IsFlowSet}
use Rattle.flow_set.proofs.SubsetLaws.{IsFlowSet-subset}
use Rattle.flow_set.specs.declared.flow.Flow.{Flow}
use Rattle.inv_any.specs.declared.any_inv.AnyInv.{AnyInv}
use Rattle.net_core.specs.Policies.{holds_on, strategy_of, edge_mark, MeetsAll, IsEdgeWiseNetwork, Policy, IsPolicyOf, CompliesWithAll, IsGreatestPolicy}
use Rattle.net_core.proofs.EdgePolicyLaws.{all_edge_wise, edge_wise_at}
use Rattle.net_core.proofs.PolicyLaws.{IsSubset-stateful}
use Rattle.state_core.proofs.StatefulLaws.{Complies-from_strict}

-- If every invariant is edge-wise, the permitted flows contain every other policy.
pub IsGreatestPolicy-from_policy : (d : Network) (policy : Policy) → IsNetwork d → IsPolicyOf d policy → IsEdgeWiseNetwork d
    → IsGreatestPolicy d policy
IsGreatestPolicy-from_policy d policy network is_policy alone =
    first_greatest d.asked.size (MeetsAll d) d.asked.flows policy.permitted.flows network.asked (all_edge_wise d network alone) is_policy.permitted

-- The policy with its answers complies with every invariant.
pub CompliesWithAll-from_policy : (d : Network) (policy : Policy) → IsNetwork d → IsPolicyOf d policy → CompliesWithAll d policy
CompliesWithAll-from_policy d policy network is_policy =
    let n : ℕ = d.asked.size in
    let p : List Flow = policy.permitted.flows in
    let s : List Flow = policy.stateful.flows in
    let p_set : IsFlowSet n p = IsFlowSet-subset n p d.asked.flows network.asked is_policy.permitted.within in
    let s_within : IsSubset s p = IsSubset-stateful d p s is_policy.stateful in
    let s_set : IsFlowSet n s = IsFlowSet-subset n s p p_set s_within in
    record {
      within = s_within;
      each = λ k e within.
          let inv : AnyInv = get_or d.invariants k e in
          Complies-from_strict n (strategy_of inv) (edge_mark inv) (holds_on inv) p s p_set s_set
          (edge_wise_at n inv (network.invariants k e within ∙ sym network.sized)) (is_policy.permitted.holds k e within) (is_policy.stateful.holds k e within);
    }
