use Rattle.std.proofs.Common.{take}
use Rattle.std.specs.List.{All}
use Rattle.audit_core.specs.inner.Pairs.{DiffersSo, IsFoundBetween, IsSource, ranges_in}
use Rattle.audit_core.specs.Sides.{Sides}
use Rattle.audit_core.proofs.sources.Sender.find.Given as goal

abbrev pub invariant-loop-source : goal.invariant-loop-source
invariant-loop-source l = (sides : Sides) → All (IsSource sides) l.self.sources.items
    → IsFoundBetween (DiffersSo sides l.direction) (ranges_in (take l.source-index l.self.sources.items)) l.to l.found
