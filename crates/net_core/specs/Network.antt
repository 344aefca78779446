-- A network: its hosts, the requested flows between them, the services to which these are restricted, and the invariants that have to hold.
-- It is independent of the file that describes it.
use Rattle.std.specs.Prelude.{Bool, List}
use Rattle.flow_set.specs.FlowSet.{SetOfFlows}
use Rattle.host_net.specs.Host.{Host}
use Rattle.host_net.specs.Services.{RestrictedFlow}
use Rattle.host_net.specs.Site.{Site, site_with}
use Rattle.inv_any.specs.declared.any_inv.AnyInv.{AnyInv}

-- A network: the hosts, the requested flows (`asked`), the services that restrict flows, whether the requested flows were listed (if not,
-- every flow is requested), whether flows may have answers, and the invariants.
pub record Network : Type 0 where
  pub hosts : List Host
  pub asked : SetOfFlows
  pub services : List RestrictedFlow
  pub given : Bool
  pub answers : Bool
  pub invariants : List AnyInv

-- The hosts, with the services to which flows between them are restricted.
abbrev pub site_of : Network → Site
site_of d = site_with d.hosts d.services
