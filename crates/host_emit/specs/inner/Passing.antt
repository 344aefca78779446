-- The host at an end of a flow: its sender, or its receiver.
use Rattle.std.specs.Prelude.{ℕ}
use Rattle.flow_set.specs.declared.flow.Flow.{Flow}
use Rattle.emit_core.specs.declared.direction.Direction.{Direction}
use Rattle.emit_core.specs.declared.direction.Direction.TheVariants.{Outbound, Inbound}

abbrev pub host_on : Direction → Flow → ℕ
host_on Outbound f = f.from
host_on Inbound f = f.to
