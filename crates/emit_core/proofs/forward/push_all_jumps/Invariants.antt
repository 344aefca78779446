use Rattle.std.proofs.Common.{◌≡◌, ◌++◌, drop}
use Rattle.emit_core.specs.Layout.{for_each_prefix, jump_from}
use Rattle.emit_core.proofs.forward.push_all_jumps.Given as goal

abbrev pub invariant-loop-host : goal.invariant-loop-host
invariant-loop-host l =
    l.rules.items ++ for_each_prefix jump_from l.host (drop l.host l.hosts)
    ≡ l.fn.rules.items ++ for_each_prefix jump_from 0 l.hosts
