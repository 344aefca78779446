use Rattle.decide_core.proofs.DeadLemmas.{are_dead}
use Rattle.decide_core.proofs.dead.dead_entries.Goals as goal

pub returns : goal.returns
returns c =
    are_dead c.args.table.now c.every.result c.in_ok-deciding.deciding c.visit_all.new.visitor c.in_ok-deciding.ensures.rules c.every.ensures.value
    c.in_ok-deciding.ensures.passing c.in_ok-deciding.ensures.none c.visit_all.ensures.grows c.in_ok-visit_all.ensures.knows c.len.result
    c.in_ok-entries.entries.items c.len.ensures.count c.in_ok-entries.ensures
