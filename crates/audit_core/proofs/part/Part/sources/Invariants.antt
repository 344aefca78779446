use Rattle.std.proofs.Common.{take}
use Rattle.audit_core.specs.inner.Pairs.{AreSources}
use Rattle.audit_core.proofs.part.Part.sources.Given as goal

abbrev pub invariant-loop-range : goal.invariant-loop-range
invariant-loop-range l = AreSources l.self (take l.range-index l.ranges) l.sources.items
