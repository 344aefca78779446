use Rattle.std.proofs.Common.{◌≡◌, ℕ, List, drop}
use Rattle.host_net.specs.declared.prefix.Prefix.{Prefix}
use Rattle.host_net.specs.Services.{services_of}
use Rattle.emit_core.specs.Directions.{permits}
use Rattle.emit_core.specs.FlowTable.{for_each_host, host_pair}
use Rattle.emit_core.specs.inner.KeptEntries.{with_entries}
use Rattle.emit_core.proofs.flows.push_from_host.Given as goal

abbrev pub invariant-loop-to : goal.invariant-loop-to
invariant-loop-to l =
    let written = λ (j : ℕ) (ts : List Prefix).
    host_pair (permits l.policy.permitted l.from j) (services_of l.policy.site.services l.from j) l.rest l.sources ts in
    with_entries l.entries (for_each_host written l.to (drop l.to l.policy.site.hosts))
    ≡ with_entries l.fn.entries (for_each_host written 0 l.policy.site.hosts)
