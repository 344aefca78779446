use Rattle.std.proofs.lemmas.List.{take_all}
use Rattle.header_space.specs.Owners.{GoesBetween}
use Rattle.pass_core.specs.NewPackets.{LetsPass}
use Rattle.pass_core.specs.Pairs.{IsListedFor}
use Rattle.pass_core.proofs.PairLemmas.{added_step}
use Rattle.pass_core.proofs.new_services.push_each.Goals as goal

pub loop-to-preserved : goal.loop-to-preserved
loop-to-preserved c =
    let from = c.args.from.now in
    added_step (λ to. IsListedFor (LetsPass c.args.question.now) (GoesBetween from.ranges.items to.ranges.items) from.owner to.owner)
    c.args.owned.now c.loop-to.to-index c.to-item.result c.args.list.now.items c.loop-to.list.items c.push_chosen.new.list.items c.loop-to-test.true c.to-item.is
    c.loop-to.invariant c.in_ok-push_chosen.ensures

pub returns : goal.returns
returns c = rw (take_all c.loop-to.to-index c.args.owned.now c.loop-to-test.false) at c.loop-to.invariant
