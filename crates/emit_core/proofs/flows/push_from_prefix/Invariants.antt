use Rattle.std.proofs.Common.{◌≡◌, drop}
use Rattle.std.specs.List.{flat_map}
use Rattle.emit_core.specs.FlowTable.{pair_entries}
use Rattle.emit_core.specs.inner.KeptEntries.{with_entries}
use Rattle.emit_core.proofs.flows.push_from_prefix.Given as goal

abbrev pub invariant-loop-destination : goal.invariant-loop-destination
invariant-loop-destination l =
    let written = pair_entries l.flow.permitted l.flow.services.now l.rest l.source in
    with_entries l.entries (flat_map written (drop l.destination-index l.destinations)) ≡ with_entries l.fn.entries (flat_map written l.destinations)
