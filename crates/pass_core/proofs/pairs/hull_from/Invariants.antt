use Rattle.std.proofs.Common.{ℕ, take}
use Rattle.header_space.specs.Owners.{IsRange, LiesIn, LiesInOne}
use Rattle.pass_core.proofs.pairs.hull_from.Given as goal

abbrev pub invariant-loop-range : goal.invariant-loop-range
invariant-loop-range l = record {
  range : IsRange l.hull;
  covers : (a : ℕ) → LiesInOne (take l.range-index l.ranges) a → LiesIn l.hull a;
}
