use Rattle.std.proofs.Common.{[], ◌∙◌, ap}
use Rattle.host_net.specs.inner.Hosts.{prefix_lists}
use Rattle.host_net.specs.inner.Refusal.{overlap_from}
use Rattle.host_net.proofs.HostsKept.{values_lists}
use Rattle.host_net.proofs.hosts.Hosts.overlap.Goals as goal

pub returns : goal.returns
returns c =
    rw (c.overlap.ensures, c.as_slice.ensures, c.values.ensures.rest)
    (ap (λ owned. overlap_from owned [] c.args.at.now) (values_lists c.self.inside.known.entries ∙ ap prefix_lists c.self.view_is))
