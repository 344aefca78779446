use Rattle.std.proofs.Common.{◌≡◌, drop}
use Rattle.std.specs.List.{flat_map}
use Rattle.emit_core.specs.inner.KeptEntries.{with_entries}
use Rattle.emit_core.specs.inner.RestEntries.{prefix_on}
use Rattle.emit_core.proofs.rest_flows.push_prefixes.Given as goal

abbrev pub invariant-loop-prefix : goal.invariant-loop-prefix
invariant-loop-prefix l =
    let written = prefix_on l.side l.flow.services.now in
    with_entries l.entries (flat_map written (drop l.prefix-index l.prefixes)) ≡ with_entries l.fn.entries (flat_map written l.prefixes)
