use Rattle.std.proofs.Common.{List, ap, length, ◌∙◌}
use Rattle.host_net.specs.Host.{Host}
use Rattle.emit_core.specs.Layout.{entry_chains, forward_rules}
use Rattle.emit_core.proofs.CountLemmas.{entries_counted}
use Rattle.emit_core.proofs.iptables.layout_of.Goals as goal

pub loop-host-init : goal.loop-host-init
loop-host-init c =
    let policy = c.args.policy.now in
    entries_counted policy c.in_ok-made.made.chains c.in_ok-made.made.count
    (c.in_ok-made.ensures.chains ∙ ap entry_chains c.hosts.ensures.value)
    (c.in_ok-made.ensures.count ∙ ap (λ (hosts : List Host). length (forward_rules hosts)) c.hosts.ensures.value)
