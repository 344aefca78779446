use Rattle.emit_core.specs.inner.Filling.{AreCounted, chains_up_to}
use Rattle.emit_core.proofs.iptables.layout_of.Given as goal

abbrev pub invariant-loop-host : goal.invariant-loop-host
invariant-loop-host l = AreCounted (chains_up_to l.policy l.host) l.made.chains l.made.count
