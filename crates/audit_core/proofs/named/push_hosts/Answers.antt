use Rattle.audit_core.proofs.NamedLemmas.{hosts_more, named_step}
use Rattle.audit_core.proofs.named.push_hosts.Goals as goal

pub loop-host-preserved : goal.loop-host-preserved
loop-host-preserved c =
    named_step _ _ _ c.args.found.now c.loop-host.found c.push_prefixes.new.found c.loop-host.invariant c.in_ok-push_prefixes.ensures
    (hosts_more c.args.hosts.now c.loop-host.host c.prefixes.result.now c.prefixes.ensures)
