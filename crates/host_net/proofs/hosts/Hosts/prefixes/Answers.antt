use Rattle.std.proofs.Common.{◌≡◌, get_or, ap, ◌∙◌, length, ◌<◌}
use Rattle.std.specs.Map.{values_of}
use Rattle.host_net.specs.inner.HostsView.{hosts_view}
use Rattle.host_net.proofs.HostsLemmas.{value_at}
use Rattle.host_net.proofs.hosts.Hosts.prefixes.Goals as goal

pub returns : goal.returns
returns c =
    let values : c.as_slice.result.now ≡ values_of c.self.inside.known.entries = c.as_slice.ensures ∙ c.values.ensures.rest in
    let within : c.args.host < length (hosts_view c.self.inside.known.entries) = rw c.self.view_is c.requires in
    rw (← c.self.view_is, c.deref.ensures.value)
    (value_at c.self.inside.known.entries c.args.host c.index-as_slice-host.result within
    (c.index-as_slice-host.is ∙ ap (λ vs. get_or vs c.args.host c.index-as_slice-host.result) values))
