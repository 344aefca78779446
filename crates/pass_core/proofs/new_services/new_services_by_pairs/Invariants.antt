use Rattle.std.proofs.Common.{take}
use Rattle.pass_core.specs.NewPackets.{LetsPass}
use Rattle.pass_core.specs.Pairs.{AreListedFor, AreListedFrom}
use Rattle.pass_core.proofs.new_services.new_services_by_pairs.Given as goal

abbrev pub invariant-loop-from : goal.invariant-loop-from
invariant-loop-from l = AreListedFor (λ from. AreListedFrom (LetsPass l.question) l.owned from) (take l.from-index l.owned) l.list.items
