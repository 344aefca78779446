use Rattle.std.proofs.Common.{◌≡◌, not, sym, subst}
use Rattle.flow_set.specs.Flow.{IsFlow}
use Rattle.flow_set.specs.FlowSet.{has}
use Rattle.net_core.proofs.AskedLemmas.{judged_again, policed_again, undone}
use Rattle.net_core.proofs.AskingLaws.{network_where}
use Rattle.net_core.specs.inner.Fitting.{IsNetwork}
use Rattle.net_core.specs.Network.{Network}
use Rattle.net_core.specs.Policies.{IsPolicyOf, IsEdgeWiseNetwork}
use Rattle.net_core.specs.inner.Policed.{Policed, policy_in}
use Rattle.net_core.proofs.network_with_policy.NetworkWithPolicy.recompute.Goals as goal

pub reevaluate-requires-clause-network : goal.reevaluate-requires-clause-network
reevaluate-requires-clause-network c =
    subst IsNetwork (sym c.set_asked.ensures)
    (network_where c.args.asked c.self.inside.description c.args.flow (subst (λ (p : Policed). IsFlow p.network.asked.size c.args.flow) (sym c.self.view_is) c.requires.flow) c.self.invariant.network)

pub reevaluate-requires-clause-walks : goal.reevaluate-requires-clause-walks
reevaluate-requires-clause-walks c =
    subst (λ (n : Network). IsEdgeWiseNetwork n → ⊥) (sym c.set_asked.ensures)
    (subst (λ (p : Policed). IsEdgeWiseNetwork p.network → ⊥) (sym c.self.view_is) c.requires.walks)

pub reevaluate-requires-clause-stays : goal.reevaluate-requires-clause-stays
reevaluate-requires-clause-stays c = λ stays.
    subst (λ (n : Network). IsPolicyOf n (policy_in c.self.inside.evaluation)) (sym c.set_asked.ensures) (c.keeps_policy_unchanged-stays.ensures stays)

pub invariant_of-self-in-Err : goal.invariant_of-self-in-Err
invariant_of-self-in-Err c =
    let other = subst (λ (p : Policed). has p.network.asked.flows c.args.flow ≡ not c.args.asked) (sym c.self.view_is) c.requires.other in
    judged_again c.self.inside.description c.set_asked-in-Err.new.self c.self.inside.evaluation c.reevaluate.new.evaluation
    (undone c.args.asked c.self.inside.description c.set_asked.new.self c.set_asked-in-Err.new.self c.args.flow c.self.invariant.network.asked.ordered other c.set_asked.ensures c.set_asked-in-Err.ensures)
    c.in-Err.ensures.unchanged c.self.invariant

pub returns-in-Err-clause-unchanged : goal.returns-in-Err-clause-unchanged
returns-in-Err-clause-unchanged c =
    let other = subst (λ (p : Policed). has p.network.asked.flows c.args.flow ≡ not c.args.asked) (sym c.self.view_is) c.requires.other in
    policed_again c.self.inside.description c.set_asked-in-Err.new.self c.self.inside.evaluation c.reevaluate.new.evaluation c.args.self.now
    (undone c.args.asked c.self.inside.description c.set_asked.new.self c.set_asked-in-Err.new.self c.args.flow c.self.invariant.network.asked.ordered other c.set_asked.ensures c.set_asked-in-Err.ensures)
    c.in-Err.ensures.unchanged c.self.view_is
