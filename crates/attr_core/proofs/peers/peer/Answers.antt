use Rattle.std.proofs.Common.{sym}
use Rattle.host_net.proofs.NamedLaws.{host_named_within}
use Rattle.attr_core.proofs.peers.peer.Goals as goal

pub returns-else-other-host-clause-other : goal.returns-else-other-host-clause-other
returns-else-other-host-clause-other c =
    (host_named_within c.args.hosts.now _ _ (sym c.in_ok-other.ensures), λ same. c.if-other-host.false (sym same))
