use Rattle.std.proofs.Common.{◌≡◌, ◌++◌, drop}
use Rattle.std.specs.List.{flat_map}
use Rattle.emit_core.specs.Layout.{jump_from}
use Rattle.emit_core.proofs.forward.push_jumps.Given as goal

abbrev pub invariant-loop-prefix : goal.invariant-loop-prefix
invariant-loop-prefix l =
    l.rules.items ++ flat_map (jump_from l.host) (drop l.prefix-index l.prefixes)
    ≡ l.fn.rules.items ++ flat_map (jump_from l.host) l.prefixes
