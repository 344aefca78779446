use Rattle.std.proofs.Common.{take}
use Rattle.pass_core.specs.inner.Listing.{AreSources}
use Rattle.pass_core.proofs.pairs.sources_of.Given as goal

abbrev pub invariant-loop-range : goal.invariant-loop-range
invariant-loop-range g l = AreSources (g.Q.Question.holds_of l.question) (take l.range-index l.ranges) l.sources.items
