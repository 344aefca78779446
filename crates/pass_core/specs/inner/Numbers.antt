-- The number of a service of the code. Internal: callers use `Services`.
use Rattle.std.specs.Prelude.{ℕ, ◌+◌, ◌*◌, Option, Some, None}
use Rattle.pass_core.specs.declared.service.Service.{Service}
use Rattle.pass_core.specs.Services.{service_count}

-- The number of the service is its protocol and its port, encoded as one number.
abbrev pub number : Service → ℕ
number s = s.proto * 65536 + s.port

-- The number of services before the next service: all services, if there is no next service.
abbrev pub number_before : Option Service → ℕ
number_before None = service_count
number_before (Some s) = number s
