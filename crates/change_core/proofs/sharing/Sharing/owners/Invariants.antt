use Rattle.std.proofs.Common.{◌≡◌, ◌++◌, drop}
use Rattle.std.specs.List.{filter}
use Rattle.header_space.specs.Owners.{owners_from, owners_of}
use Rattle.change_core.specs.inner.Sharing.{is_marked}
use Rattle.change_core.proofs.sharing.Sharing.owners.Given as goal

abbrev pub invariant-loop-other : goal.invariant-loop-other
invariant-loop-other l =
    l.owners.items ++ filter (is_marked l.self l.host) (owners_from l.other (drop l.other l.old)) ≡ filter (is_marked l.self l.host) (owners_of l.old)
