use Rattle.std.proofs.Common.{sym, subst}
use Rattle.flow_set.specs.Flow.{IsFlow}
use Rattle.flow_set.specs.FlowSet.{SetOfFlows}
use Rattle.net_core.proofs.AskingLaws.{network_where}
use Rattle.net_core.specs.inner.Fitting.{IsNetwork}
use Rattle.net_core.specs.Network.{Network}
use Rattle.net_core.proofs.description.Description.set_asked.Goals as goal

pub invariant_of-self : goal.invariant_of-self
invariant_of-self c =
    let d : Network = record { hosts = c.self.inside.hosts; asked = c.self.inside.asked; services = c.self.inside.services; given = c.self.inside.given; answers = c.self.inside.answers; invariants = c.self.inside.invariants.items } in
    subst (λ (s : SetOfFlows). IsNetwork (record { hosts = c.self.inside.hosts; asked = s; services = c.self.inside.services; given = c.self.inside.given; answers = c.self.inside.answers; invariants = c.self.inside.invariants.items })) (sym c.set_flow.ensures)
    (network_where c.args.asked d c.args.flow (subst (λ (n : Network). IsFlow n.asked.size c.args.flow) (sym c.self.view_is) c.requires) c.self.invariant)
