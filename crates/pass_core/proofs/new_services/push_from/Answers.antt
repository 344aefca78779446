use Rattle.std.proofs.lemmas.Result.{on_ok_weaker}
use Rattle.pass_core.specs.NewPackets.{LetsPass}
use Rattle.pass_core.proofs.PairLemmas.{from_part, part_agrees}
use Rattle.pass_core.proofs.new_services.push_from.Goals as goal

pub returns-in-Some : goal.returns-in-Some
returns-in-Some c =
    let q = c.args.question.now in
    let agree =
    part_agrees LetsPass q c.in-Some.part c.in_ok-restrict.field-0 c.args.from.now.ranges.items c.deref.result.now c.hull.result c.every_address.result
    c.box_between-within.result c.in-Some.is c.in_ok-restrict.ensures c.deref.ensures.value c.hull.ensures.covers c.every_address.ensures
    c.box_between-within.ensures.inside in
    on_ok_weaker c.push_by_size-in-Some.result
    (from_part (LetsPass q) (LetsPass c.in-Some.part) c.args.owned.now c.args.from.now c.args.list.now.items c.push_by_size-in-Some.new.list.items agree)
    c.push_by_size-in-Some.ensures
