use Rattle.change_core.proofs.SharingLaws.{nothing_marked}
use Rattle.change_core.proofs.sharing.Sharing.nothing.Goals as goal

pub returns-clause-nothing : goal.returns-clause-nothing
returns-clause-nothing c = nothing_marked (record { hosts = c.loop.hosts; beyond = c.empty-2.result }) c.loop.invariant.empty c.empty-2.ensures
