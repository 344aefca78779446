-- The table of the sample describes a network of n hosts, for every n up to the limit.
use Rattle.std.proofs.Common.{◌≡◌, ℕ, suc, ◌≤◌, List, [], ◌∷◌, length, map, Ok, refl, sym, ap, subst, ◌∙◌, arith}
use Rattle.desc_core.specs.RawNetwork.{network_of, services_in}
use Rattle.desc_form.specs.RawHosts.{network_host, network_hosts}
use Rattle.desc_core.specs.Description.{described_by_table}
use Rattle.desc_core.proofs.TableFactsLaws.{IsRight-described, described-IsRight}
use Rattle.net_core.specs.Network.{Network}
use Rattle.desc_core.specs.inner.TableFacts.{IsRight}
use Rattle.desc_form.specs.RawDescription.{RawDescription, RawHost}
use Rattle.desc_form.proofs.RawUniqueLaws as once
use Rattle.desc_form.specs.inner.HostFacts.{HasHosts}
use Rattle.host_net.specs.Limits.{host_limit}
use Rattle.sample_core.specs.SampleTable.{sample_hosts, sample_table}
use Rattle.sample_core.specs.inner.SampleRaw.{sample_host, sample_raw}
use Rattle.sample_core.proofs.NumberLaws.{length_made}
use Rattle.sample_core.proofs.RawDescriptionLaws.{sample_formed, written_is}
use Rattle.sample_core.proofs.HostLaws.{sample_has_hosts}
use Rattle.sample_core.proofs.UseLaws.{sample_has_uses}

pub sample_is_right : (n : ℕ) → n ≤ host_limit → IsRight (sample_table n)
sample_is_right n few = record {
  w = sample_raw n;
  written = sample_formed n;
  hosts = sample_has_hosts n few;
  uses = sample_has_uses n few;
}

hosts_kept : (hs : List RawHost) → length (map network_host hs) ≡ length hs
hosts_kept [] = refl
hosts_kept (h ∷ hs) = ap suc (hosts_kept hs)

-- The table describes a network.
sample_described : (n : ℕ) → n ≤ host_limit → described_by_table (sample_table n) ≡ Ok (network_of (sample_raw n))
sample_described n few = described-IsRight (sample_table n) (sample_is_right n few) ∙ ap (λ (w : RawDescription). Ok (network_of w)) (written_is n)

-- It has n hosts.
pub hosts_counted : (n : ℕ) (d : Network) → n ≤ host_limit → described_by_table (sample_table n) ≡ Ok d → length d.hosts ≡ n
unfolding network_of network_hosts
hosts_counted n d few described =
    let same : network_of (sample_raw n) ≡ d = cc (sample_described n few, described) in
    ap (λ (e : Network). length e.hosts) (sym same) ∙ hosts_kept (map sample_host (sample_hosts n)) ∙ length_made sample_host 0 n

-- All its flows are unrestricted.
pub sample_is_whole : (n : ℕ) (d : Network) → n ≤ host_limit → described_by_table (sample_table n) ≡ Ok d → d.services ≡ []
unfolding network_of services_in
sample_is_whole n d few described =
    let same : network_of (sample_raw n) ≡ d = cc (sample_described n few, described) in
    ap (λ (e : Network). e.services) (sym same)

-- The number of its hosts is within the limit, since the network is described.
pub sample_is_small : (n : ℕ) (d : Network) → described_by_table (sample_table n) ≡ Ok d → n ≤ host_limit
sample_is_small n d described =
    let right = IsRight-described (sample_table n) d described in
    let same = once.written_is (sample_table n) right.w right.written ∙ written_is n in
    let few = (subst HasHosts same right.hosts).few_hosts in
    omega (arith, few, length_made sample_host 0 n)
