use Rattle.host_net.proofs.HostsKept.{welcome}
use Rattle.desc_form.specs.inner.RawView.{host_view}
use Rattle.desc_form.specs.RawHosts.{network_host}
use Rattle.desc_form.proofs.hosts.add_host.Goals as goal

pub of-requires : goal.of-requires
of-requires c =
    let added = network_host (host_view c.args.host.now) in
    rw c.as_bytes.ensures.value
    (welcome c.args.hosts.now added.name added.prefixes added.rest c.requires.accepted).named
