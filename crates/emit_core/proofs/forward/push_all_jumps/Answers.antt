use Rattle.emit_core.specs.Layout.{jump_from}
use Rattle.emit_core.proofs.Steps.{grow_each}
use Rattle.emit_core.proofs.forward.push_all_jumps.Goals as goal

pub loop-host-preserved : goal.loop-host-preserved
loop-host-preserved c = grow_each jump_from _ _ _ _ _ _ c.prefixes.ensures c.loop-host.invariant c.in_ok-push_jumps.ensures
