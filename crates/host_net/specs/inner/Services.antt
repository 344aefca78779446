-- Adding a service to a flow, and the invariants of services, regardless of how they were added.
use Rattle.std.specs.Prelude.{ℕ, ◌≤◌, if◌then◌else◌, IsTrue, List, [], ◌∷◌, ◌++◌, length}
use Rattle.std.specs.List.{list_all}
use Rattle.host_net.specs.declared.service.Service.{Service}
use Rattle.host_net.specs.inner.Service.{is_service}
use Rattle.host_net.specs.Services.{RestrictedFlow, is_between, service_limit, services_of}

-- The restricted flows after one service is added to one of them.
abbrev pub with_service : List RestrictedFlow → ℕ → ℕ → Service → List RestrictedFlow
with_service [] from to s = record { from = from; to = to; services = s ∷ [] } ∷ []
with_service (n ∷ ns) from to s =
    if is_between from to n then record { from = n.from; to = n.to; services = n.services ++ s ∷ [] } ∷ ns else n ∷ with_service ns from to s

-- The invariants of services: the limits hold, and every service is valid.
pub record AreServices (ns : List RestrictedFlow) : Type 0 where
  pub few : (from to : ℕ) → length (services_of ns from to) ≤ service_limit
  pub valid : (from to : ℕ) → IsTrue (list_all is_service (services_of ns from to))
