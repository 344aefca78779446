use Rattle.decide_core.proofs.PairSetLemmas.{notes_more_at}
use Rattle.decide_core.proofs.pair_sets.note_sets.Goals as goal

pub loop-set-preserved : goal.loop-set-preserved
loop-set-preserved c =
    notes_more_at c.args.diagrams.now c.args.boxes.now c.args.met.now.sets.items c.deref-set-items.result.now c.loop-set.set-index _ c.args.deciding.now
    c.loop-set.deciding c.note_set.new.deciding c.deref-set-items.ensures.value c.loop-set-test.true c.loop-set.invariant c.note_set.ensures
