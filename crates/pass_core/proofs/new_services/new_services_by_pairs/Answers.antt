use Rattle.pass_core.specs.NewPackets.{LetsPass}
use Rattle.pass_core.specs.Pairs.{AreListedFrom}
use Rattle.pass_core.proofs.PairLemmas.{listed_step}
use Rattle.pass_core.proofs.new_services.new_services_by_pairs.Goals as goal

pub loop-from-preserved : goal.loop-from-preserved
loop-from-preserved c =
    listed_step (λ from. AreListedFrom (LetsPass c.args.question.now) c.args.owned.now from) c.args.owned.now c.loop-from.from-index
    c.from-item.result c.loop-from.list.items c.push_from.new.list.items c.loop-from-test.true c.from-item.is c.loop-from.invariant c.in_ok-push_from.ensures
