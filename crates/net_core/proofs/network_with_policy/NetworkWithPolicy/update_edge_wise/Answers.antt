use Rattle.std.proofs.Common.{◌≡◌, not, sym, subst}
use Rattle.flow_set.specs.Flow.{IsFlow}
use Rattle.flow_set.specs.FlowSet.{has}
use Rattle.net_core.proofs.AskedLemmas.{fresh_where}
use Rattle.net_core.proofs.AskingLaws.{network_where}
use Rattle.net_core.specs.inner.Fitting.{IsNetwork}
use Rattle.net_core.specs.Network.{Network}
use Rattle.net_core.specs.Policies.{IsPolicyOf}
use Rattle.net_core.specs.inner.FailingFlows.{AreFailingFlows}
use Rattle.net_core.specs.inner.Policed.{Policed}
use Rattle.net_core.proofs.network_with_policy.NetworkWithPolicy.update_edge_wise.Goals as goal

pub change_flow-requires-clause-fresh : goal.change_flow-requires-clause-fresh
change_flow-requires-clause-fresh c =
    fresh_where c.args.asked (has c.self.inside.description.asked.flows c.args.flow)
    (subst (λ (p : Policed). has p.network.asked.flows c.args.flow ≡ not c.args.asked) (sym c.self.view_is) c.requires.other)

pub change_failing-requires-clause-fresh : goal.change_failing-requires-clause-fresh
change_failing-requires-clause-fresh c =
    fresh_where c.args.asked (has c.self.inside.description.asked.flows c.args.flow)
    (subst (λ (p : Policed). has p.network.asked.flows c.args.flow ≡ not c.args.asked) (sym c.self.view_is) c.requires.other)

pub count_failing-self-inside-requires-clause-network : goal.count_failing-self-inside-requires-clause-network
count_failing-self-inside-requires-clause-network c =
    subst IsNetwork (sym c.set_asked.ensures)
    (network_where c.args.asked c.self.inside.description c.args.flow (subst (λ (p : Policed). IsFlow p.network.asked.size c.args.flow) (sym c.self.view_is) c.requires.flow) c.self.invariant.network)

pub invariant_of-self : goal.invariant_of-self
invariant_of-self c = record {
  network = subst IsNetwork (sym c.set_asked.ensures) (network_where c.args.asked c.self.inside.description c.args.flow (subst (λ (p : Policed). IsFlow p.network.asked.size c.args.flow) (sym c.self.view_is) c.requires.flow) c.self.invariant.network);
  is_policy =
      subst (λ (n : Network). IsPolicyOf n (record { permitted = c.change_flow.new.permitted; stateful = c.change_flow.new.stateful })) (sym c.set_asked.ensures) c.change_flow.ensures;
  failed = c.count_failing-self-inside.ensures;
  failing = λ _. subst (λ (n : Network). AreFailingFlows n c.change_failing.new.failing.items) (sym c.set_asked.ensures) c.change_failing.ensures;
}
