use Rattle.std.proofs.Common.{refl}
use Rattle.host_net.proofs.HostsLemmas.{value_place}
use Rattle.host_net.proofs.hosts.Hosts.rest.Goals as goal

pub returns : goal.returns
returns c =
    rw (← c.self.view_is, c.number.ensures, c.rest_host.ensures, c.as_slice.ensures, c.values.ensures.rest)
    (value_place (λ h. h.rest) (λ d. d.rest) (λ e. refl) c.self.inside.known.entries)
