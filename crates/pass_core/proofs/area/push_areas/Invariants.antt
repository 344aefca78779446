use Rattle.std.proofs.Common.{◌≡◌, ◌++◌, map, take}
use Rattle.pass_core.specs.inner.Areas.{area_between}
use Rattle.pass_core.proofs.area.push_areas.Given as goal

abbrev pub invariant-loop-target : goal.invariant-loop-target
invariant-loop-target l = l.areas.items ≡ l.fn.areas.items ++ map (area_between l.source) (take l.target-index l.to)
