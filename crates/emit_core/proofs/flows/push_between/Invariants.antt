use Rattle.std.proofs.Common.{◌≡◌, drop}
use Rattle.emit_core.specs.FlowTable.{for_each_host, from_host}
use Rattle.emit_core.specs.inner.KeptEntries.{with_entries}
use Rattle.emit_core.proofs.flows.push_between.Given as goal

abbrev pub invariant-loop-from : goal.invariant-loop-from
invariant-loop-from l =
    let written = from_host l.policy.site l.policy.permitted l.rest in
    with_entries l.entries (for_each_host written l.from (drop l.from l.policy.site.hosts))
    ≡ with_entries l.fn.entries (for_each_host written 0 l.policy.site.hosts)
