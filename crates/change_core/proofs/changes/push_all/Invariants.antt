use Rattle.std.proofs.Common.{◌≡◌, ◌++◌, map}
use Rattle.change_core.specs.inner.Changing.{change_of}
use Rattle.change_core.proofs.changes.push_all.Given as goal

abbrev pub invariant-loop-pair : goal.invariant-loop-pair
invariant-loop-pair l = l.list.items ≡ l.fn.list.items ++ map (change_of l.kind l.count) l.yielded
