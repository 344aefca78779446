-- Hosts with unrestricted flows only, and the invariants of a site.
use Rattle.std.specs.Prelude.{List, []}
use Rattle.host_net.specs.Host.{Host}
use Rattle.host_net.specs.inner.Hosts.{IsHosts}
use Rattle.host_net.specs.inner.Services.{AreServices}
use Rattle.host_net.specs.Site.{Site, site_with}

-- Hosts with unrestricted flows only.
abbrev pub unnarrowed : List Host → Site
unnarrowed hosts = site_with hosts []

-- A site is valid: its hosts are those of a network, and its services are valid.
pub record IsSite (site : Site) : Type 0 where
  pub hosts : IsHosts site.hosts
  pub services : AreServices site.services
