use Rattle.desc_core.proofs.ServicesLemmas.{Remain}
use Rattle.desc_core.proofs.services.read_services.Given as goal

abbrev pub invariant-loop-index : goal.invariant-loop-index
invariant-loop-index l = Remain l.services l.index l.flows l.written
