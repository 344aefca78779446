use Rattle.std.proofs.Common.{refl}
use Rattle.header_space.specs.Boxes.{every_packet}
use Rattle.pass_core.proofs.DeadLemmas.{are_dead, are_removable}
use Rattle.pass_core.proofs.dead.dead_rules.Goals as goal

pub returns-clause-dead : goal.returns-clause-dead
returns-clause-dead c =
    are_dead c.args.rules.now every_packet c.in_ok-met.met c.mark_met.new.met c.in_ok-met.ensures.chains refl c.in_ok-met.ensures.none
    c.in_ok-mark_met.ensures.more c.in_ok-mark_met.ensures.known c.in_ok-places.places.items
    (rw c.marks.ensures at c.in_ok-places.ensures)

pub returns-clause-removable : goal.returns-clause-removable
returns-clause-removable c =
    are_removable c.args.rules.now c.in_ok-places.places.items c.rules-count.ensures.deterministic (returns-clause-dead c)
