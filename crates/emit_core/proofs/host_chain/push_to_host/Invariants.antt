use Rattle.std.proofs.Common.{◌≡◌, ◌++◌, drop}
use Rattle.std.specs.List.{flat_map}
use Rattle.emit_core.specs.inner.Link.{prefix_rules}
use Rattle.emit_core.proofs.host_chain.push_to_host.Given as goal

abbrev pub invariant-loop-prefix : goal.invariant-loop-prefix
invariant-loop-prefix l =
    l.rules.items ++ flat_map (prefix_rules l.link l.opened) (drop l.prefix-index l.prefixes)
    ≡ l.fn.rules.items ++ flat_map (prefix_rules l.link l.opened) l.prefixes
