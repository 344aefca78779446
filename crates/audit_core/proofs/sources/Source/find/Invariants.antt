use Rattle.std.proofs.Common.{take, ◌∷◌, []}
use Rattle.header_space.specs.Searching.{Improves}
use Rattle.audit_core.specs.inner.Pairs.{HoldsBetween, HoldsOf}
use Rattle.audit_core.proofs.sources.Source.find.Given as goal

abbrev pub invariant-loop-range : goal.invariant-loop-range
invariant-loop-range l = Improves (HoldsBetween (HoldsOf l.self.ends l.fn.direction) (l.self.range ∷ []) (take l.range-index l.to)) l.fn.found l.first
