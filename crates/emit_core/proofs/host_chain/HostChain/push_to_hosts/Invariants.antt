use Rattle.std.proofs.Common.{◌≡◌, ◌++◌, drop}
use Rattle.emit_core.specs.Layout.{for_each_prefix, to_prefix}
use Rattle.emit_core.proofs.host_chain.HostChain.push_to_hosts.Given as goal

abbrev pub invariant-loop-to : goal.invariant-loop-to
invariant-loop-to l =
    let policy = l.self.policy.now in
    let written = to_prefix l.self.side policy l.self.host l.self.rest in
    l.rules.items ++ for_each_prefix written l.to (drop l.to policy.site.hosts)
    ≡ l.fn.rules.items ++ for_each_prefix written 0 policy.site.hosts
