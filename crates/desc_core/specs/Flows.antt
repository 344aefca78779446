-- The flows of a description, between the hosts of their names.
use Rattle.std.specs.Prelude.{List, ◌==◌, if◌then◌else◌, Option, Some, None}
use Rattle.desc_form.specs.RawFlow.{RawFlow}
use Rattle.flow_set.specs.declared.flow.Flow.{Flow}
use Rattle.host_net.specs.Host.{Host, host_named}
use Rattle.text_core.specs.Steps.{◌>>=◌}

-- The flow between the hosts of two names, if they are two different hosts.
abbrev pub flow_of_names : List Host → RawFlow → Option Flow
flow_of_names hosts names = do
  from ← host_named hosts names.from
  to ← host_named hosts names.to
  if from == to then None else Some (record { from = from; to = to })
