use Rattle.std.proofs.Common.{◌≡◌, get_or, ap, ◌∙◌, length, ◌<◌}
use Rattle.std.specs.Map.{keys_of}
use Rattle.host_net.specs.inner.HostsView.{hosts_view}
use Rattle.host_net.proofs.HostsLemmas.{key_at}
use Rattle.host_net.proofs.hosts.Hosts.name.Goals as goal

pub returns : goal.returns
returns c =
    let keys : c.as_slice.result.now ≡ keys_of c.self.inside.known.entries = c.as_slice.ensures ∙ c.keys.ensures.rest in
    let within : c.args.host < length (hosts_view c.self.inside.known.entries) = rw c.self.view_is c.requires in
    rw (← c.self.view_is)
    (key_at c.self.inside.known.entries c.args.host c.index-as_slice-host.result within
    (c.index-as_slice-host.is ∙ ap (λ ks. get_or ks c.args.host c.index-as_slice-host.result) keys))
