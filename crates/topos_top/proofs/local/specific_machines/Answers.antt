use Rattle.std.proofs.Common.{◌<◌, length, sym, subst}
use Rattle.pkt_core.specs.FlowPolicy.{FlowPolicy}
use Rattle.host_net.proofs.NamedLaws.{host_named_within}
use Rattle.run_core.specs.inner.Views.{reply_view}
use Rattle.topos_top.specs.inner.Local.{local_dialect_of}
use Rattle.topos_top.proofs.LocalLaws.{ends_with_rules}
use Rattle.topos_top.proofs.local.specific_machines.Goals as goal

pub machine_text-requires-clause-there : goal.machine_text-requires-clause-there
machine_text-requires-clause-there c =
    subst (λ (policy : FlowPolicy). c.args.number < length policy.site.hosts) (sym c.policy_between.ensures)
    (host_named_within c.args.description.now.hosts c.args.host.now c.args.number c.requires.named)

pub returns : goal.returns
returns c =
    let written = rw c.policy_between.ensures at c.in_ok-text.ensures in
    ends_with_rules c.args.description.now c.args.host.now (local_dialect_of c.args.dialect) (reply_view c.done.result) c.in_ok-policy.policy _ c.in_ok-policy.ensures.policy
    (record { number = c.args.number; named = c.requires.named; specific = c.requires.specific }) written c.done.ensures
