use Rattle.std.proofs.Common.{drop}
use Rattle.sample_core.proofs.OffenceLemmas.{GoesOn}
use Rattle.sample_core.proofs.counts.offending.Given as goal

-- The invariants so far are counted.
abbrev pub invariant-loop-invariant : goal.invariant-loop-invariant
invariant-loop-invariant l = GoesOn l.description l.counts.items (drop l.invariant-index l.description.invariants)
