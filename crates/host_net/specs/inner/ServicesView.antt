-- The model of `Services`: the flows with services that the private map represents.
use Rattle.std.specs.Prelude.{ℕ, List, map}
use Rattle.std.specs.Global.{Global}
use Rattle.std.specs.declared.vec.Vec.{Vec}
use Rattle.host_net.specs.declared.service.Service.{Service}
use Rattle.host_net.specs.Services.{RestrictedFlow}

abbrev pub narrowed_view : (ℕ × ℕ) × Vec Service Global → RestrictedFlow
narrowed_view e = record { from = e.0.0; to = e.0.1; services = e.1.items }

abbrev pub services_view : List ((ℕ × ℕ) × Vec Service Global) → List RestrictedFlow
services_view entries = map narrowed_view entries
