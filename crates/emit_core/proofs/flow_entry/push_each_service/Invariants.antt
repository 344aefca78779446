use Rattle.std.proofs.Common.{◌≡◌, drop, Some}
use Rattle.std.specs.Prelude.{map}
use Rattle.host_net.specs.declared.service.Service.{Service}
use Rattle.emit_core.specs.FlowTable.{service_entry}
use Rattle.emit_core.specs.inner.KeptEntries.{with_entries}
use Rattle.emit_core.proofs.flow_entry.push_each_service.Given as goal

abbrev pub invariant-loop-service : goal.invariant-loop-service
invariant-loop-service l =
    let written = λ (s : Service). service_entry l.priority l.src l.dst (Some s) in
    with_entries l.entries (map written (drop l.service-index l.services)) ≡ with_entries l.fn.entries (map written l.services)
