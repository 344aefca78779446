use Rattle.std.proofs.Common.{◌≡◌, drop}
use Rattle.std.specs.List.{flat_map}
use Rattle.emit_core.specs.FlowTable.{from_prefix}
use Rattle.emit_core.specs.inner.KeptEntries.{with_entries}
use Rattle.emit_core.proofs.flows.push_host_pair.Given as goal

abbrev pub invariant-loop-source : goal.invariant-loop-source
invariant-loop-source l =
    let written = from_prefix l.flow.permitted l.flow.services.now l.rest l.destinations in
    with_entries l.entries (flat_map written (drop l.source-index l.sources)) ≡ with_entries l.fn.entries (flat_map written l.sources)
