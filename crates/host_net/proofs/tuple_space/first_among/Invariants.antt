use Rattle.std.proofs.Common.{take}
use Rattle.host_net.specs.inner.CoverView.{AreFirst, AreInOrder, Begins, IsFirstKey}
use Rattle.host_net.proofs.tuple_space.first_among.Given as goal

abbrev pub invariant-loop-group : goal.invariant-loop-group
invariant-loop-group l =
    AreInOrder l.keys → AreFirst l.groups l.keys → IsFirstKey (Begins (take l.group-index l.groups) l.src l.dst) l.keys l.from l.first
