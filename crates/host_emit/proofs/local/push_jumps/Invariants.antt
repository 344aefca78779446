use Rattle.std.proofs.Common.{◌≡◌, ◌++◌, drop}
use Rattle.std.specs.List.{flat_map}
use Rattle.host_emit.specs.LocalLayout.{own_jump}
use Rattle.host_emit.proofs.local.push_jumps.Given as goal

abbrev pub invariant-loop-prefix : goal.invariant-loop-prefix
invariant-loop-prefix l =
    l.rules.items ++ flat_map (own_jump l.side) (drop l.prefix-index l.prefixes)
    ≡ l.fn.rules.items ++ flat_map (own_jump l.side) l.prefixes
