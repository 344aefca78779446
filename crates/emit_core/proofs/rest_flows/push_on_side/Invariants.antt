use Rattle.std.proofs.Common.{◌≡◌, ℕ, List, drop}
use Rattle.host_net.specs.declared.prefix.Prefix.{Prefix}
use Rattle.emit_core.specs.Directions.{connects, services_on}
use Rattle.emit_core.specs.FlowTable.{for_each_host}
use Rattle.emit_core.specs.inner.KeptEntries.{with_entries}
use Rattle.emit_core.specs.inner.RestEntries.{prefixes_on}
use Rattle.emit_core.proofs.rest_flows.push_on_side.Given as goal

abbrev pub invariant-loop-host : goal.invariant-loop-host
invariant-loop-host l =
    let written = λ (i : ℕ) (qs : List Prefix). prefixes_on l.side (connects l.side l.policy.permitted i l.rest) (services_on l.side l.policy.site.services i l.rest) qs in
    with_entries l.entries (for_each_host written l.host (drop l.host l.policy.site.hosts))
    ≡ with_entries l.fn.entries (for_each_host written 0 l.policy.site.hosts)
