use Rattle.std.proofs.Common.{◌≡◌, ◌<◌, ◌++◌, ◌∷◌, ℕ, suc, None, append-nil, get_or, length, List, map, drop, sym, ap, subst, ◌∙◌}
use Rattle.std.proofs.Math.ListN.{drop_of_length-le}
use Rattle.text_core.specs.FirstMatch.{first_of}
use Rattle.desc_form.specs.inner.RawView.{host_view, raw_view}
use Rattle.desc_form.specs.declared.raw.RawDescription.{RawDescription}
use Rattle.desc_form.specs.declared.raw.RawHost.{RawHost}
use Rattle.host_net.specs.Host.{Host}
use Rattle.host_net.specs.inner.Hosts.{IsHosts}
use Rattle.desc_form.specs.HostConditions.{host_conditions}
use Rattle.desc_form.proofs.HostsLaws.{IsHosts-network_hosts}
use Rattle.desc_form.specs.RawHosts.{network_host, network_hosts}
use Rattle.desc_form.proofs.AddingLemmas.{known_here}
use Rattle.host_net.proofs.AcceptedLaws.{accepted, networks_of}
use Rattle.desc_form.proofs.hosts.read_hosts.Goals as goal

-- The hosts added so far, the next one and the remaining ones.
known_next : (w : RawDescription) (hosts : List Host) (xs : List RawHost) (i : ℕ) (x : RawHost) → first_of (host_conditions (raw_view w)) ≡ None → xs ≡ w.hosts.items
    → i < length xs → x ≡ get_or xs i x → hosts ++ map network_host (map host_view (drop i xs)) ≡ map network_host (map host_view xs)
    → IsHosts (hosts ++ network_host (host_view x) ∷ map network_host (map host_view (drop (suc i) xs)))
unfolding network_hosts
known_next w hosts xs i x no_refusal listed within e grown =
    known_here network_host host_view hosts xs i x within e grown
    (subst (λ (hs : List RawHost). IsHosts (map network_host (map host_view hs))) (sym listed) (IsHosts-network_hosts (raw_view w) no_refusal))

pub add_host-requires-clause-networks : goal.add_host-requires-clause-networks
add_host-requires-clause-networks c =
    networks_of c.loop-host.hosts (network_host (host_view c.host-item.result)) _
    (known_next c.args.written.now c.loop-host.hosts c.deref-host-items.result.now c.loop-host.host-index c.host-item.result c.requires c.deref-host-items.ensures.value
    c.loop-host-test.true c.host-item.is c.loop-host.invariant.grown)

pub add_host-requires-clause-accepted : goal.add_host-requires-clause-accepted
add_host-requires-clause-accepted c =
    accepted c.loop-host.hosts (network_host (host_view c.host-item.result)) _
    (known_next c.args.written.now c.loop-host.hosts c.deref-host-items.result.now c.loop-host.host-index c.host-item.result c.requires c.deref-host-items.ensures.value
    c.loop-host-test.true c.host-item.is c.loop-host.invariant.grown)

pub returns : goal.returns
unfolding network_hosts
returns c =
    sym (append-nil c.loop-host.hosts)
    ∙ ap (λ (hs : List RawHost). c.loop-host.hosts ++ map network_host (map host_view hs)) (sym (drop_of_length-le c.deref-host-items.result.now c.loop-host-test.false))
    ∙ c.loop-host.invariant.grown
    ∙ ap (λ (hs : List RawHost). map network_host (map host_view hs)) c.deref-host-items.ensures.value
