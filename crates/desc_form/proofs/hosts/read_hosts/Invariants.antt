use Rattle.std.proofs.Common.{◌≡◌, ◌++◌, map, drop}
use Rattle.desc_form.specs.inner.RawView.{host_view}
use Rattle.desc_form.specs.RawHosts.{network_host}
use Rattle.desc_form.proofs.hosts.read_hosts.Given as goal

abbrev pub invariant-loop-host : goal.invariant-loop-host
invariant-loop-host l = record {
  grown : l.hosts ++ map network_host (map host_view (drop l.host-index l.host-items)) ≡ map network_host (map host_view l.host-items);
}
