-- The hosts of a network, and the services to which flows between them are restricted.
use Rattle.std.specs.Prelude.{List}
use Rattle.host_net.specs.Host.{Host}
use Rattle.host_net.specs.Services.{RestrictedFlow}

-- A site: the hosts, and the restricted flows between them.
pub record Site : Type 0 where
  pub hosts : List Host
  pub services : List RestrictedFlow

-- The site with these hosts and these restricted flows.
abbrev pub site_with : List Host → List RestrictedFlow → Site
site_with hosts services = record { hosts = hosts; services = services }
