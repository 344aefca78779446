use Rattle.std.proofs.Common.{List, subst}
use Rattle.std.specs.List.{AllZip}
use Rattle.std.proofs.lemmas.Result.{IfOk-weaker}
use Rattle.ipt_rules.specs.Chain.{Chain}
use Rattle.rules_space.specs.Rules.{Chains}
use Rattle.nft_chains.proofs.VerdictLaws.{same_verdicts}
use Rattle.decide_core.specs.Flows.{AreFlows}
use Rattle.decide_core.specs.declared.flows.PairFlows.{PairFlows}
use Rattle.nft_flows.specs.Flows.{AreTableFlows}
use Rattle.nft_flows.specs.declared.span.Span.{Span}
use Rattle.nft_flows.specs.inner.Selected.{IsPlacedPair}
use Rattle.nft_flows.proofs.FlowLaws.{table_flows}
use Rattle.nft_flows.proofs.flows.flows_of_table.Goals as goal

pub returns : goal.returns
returns c =
    let table = c.args.table.now in
    let hosts = c.args.hosts.now in
    let one = c.table-held.ensures.one in
    let loadable = c.table-held.ensures.loadable in
    let flows = c.in_ok-flows.flows.items in
    let are = subst (λ (chains : List Chain). AreFlows (Chains chains) hosts flows) c.requires c.in_ok-flows.ensures in
    IfOk-weaker c.place_pairs.result (λ placed. AllZip (IsPlacedPair c.deref.result.now) c.deref-2.result.now placed.items)
    (λ placed. AreTableFlows table hosts placed.items)
    (λ placed all. table_flows table hosts loadable (same_verdicts table loadable (λ state p is. let known = one state p is in (known.0, known.1))) flows
    placed.items are
    (subst (λ (spans : List Span). AllZip (IsPlacedPair spans) flows placed.items) c.in_ok-spans.ensures
    (subst (λ (spans : List Span). AllZip (IsPlacedPair spans) flows placed.items) c.deref.ensures.value
    (subst (λ (fs : List PairFlows). AllZip (IsPlacedPair c.deref.result.now) fs placed.items) c.deref-2.ensures.value all)))) c.place_pairs.ensures
