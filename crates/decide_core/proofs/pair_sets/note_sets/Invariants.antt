use Rattle.std.proofs.Common.{take}
use Rattle.decide_core.specs.inner.PairSets.{AddsNotes}
use Rattle.decide_core.proofs.PairSetLemmas.{IsNotedIn}
use Rattle.decide_core.proofs.pair_sets.note_sets.Given as goal

abbrev pub invariant-loop-set : goal.invariant-loop-set
invariant-loop-set l = AddsNotes (IsNotedIn l.diagrams (take l.set-index l.met.sets.items) l.boxes) l.fn.deciding l.deciding
