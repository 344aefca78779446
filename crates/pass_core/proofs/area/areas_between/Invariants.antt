use Rattle.std.proofs.Common.{◌≡◌, take}
use Rattle.pass_core.specs.inner.Areas.{areas_between}
use Rattle.pass_core.proofs.area.areas_between.Given as goal

abbrev pub invariant-loop-source : goal.invariant-loop-source
invariant-loop-source l = l.areas.items ≡ areas_between (take l.source-index l.from) l.to
