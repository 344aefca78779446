-- The flows between hosts that are restricted to services, each with its services.
use Rattle.std.specs.Prelude.{ℕ, Bool, ◌&&◌, ◌==◌, if◌then◌else◌, List, [], ◌∷◌}
use Rattle.host_net.specs.declared.service.Service.{Service}

-- A restricted flow from one host to another, with its services.
pub record RestrictedFlow : Type 0 where
  pub from : ℕ
  pub to : ℕ
  pub services : List Service

-- The restricted flow leads from host `from` to host `to`.
abbrev pub is_between : ℕ → ℕ → RestrictedFlow → Bool
is_between from to narrowed = (from == narrowed.from) && (to == narrowed.to)

-- The services of a flow: the empty list if the flow is unrestricted.
abbrev pub services_of : List RestrictedFlow → ℕ → ℕ → List Service
services_of [] from to = []
services_of (n ∷ ns) from to = if is_between from to n then n.services else services_of ns from to

-- The greatest number of services of one flow.
abbrev pub service_limit : ℕ
service_limit = 16
