-- The services of a flow match a packet if one of them does.
use Rattle.std.proofs.Common.{◌≡◌, ℕ, ◌<◌, ◌^◌, Bool, true, ◌&&◌, ◌||◌, ◌==◌, List, [], ◌∷◌, Option, Some, map, refl, sym, ap, arith}
use Rattle.std.specs.Prelude.{nat_le}
use Rattle.std.specs.List.{list_any}
use Rattle.std.specs.Option.{option_map_or}
use Rattle.std.proofs.lemmas.Bool.{and_parts}
use Rattle.std.proofs.lemmas.Bool.Decides.{nat_tests}
use Rattle.host_net.specs.declared.packet.Packet.{Packet}
use Rattle.host_net.specs.declared.service.Service.{Service}
use Rattle.host_net.specs.Service.{serves, is_served, service_matches, has_all_ports, max_port}

-- The packet matches a service to which the flow is restricted, or the flow is unrestricted.
abbrev pub lets : Packet → Option Service → Bool
lets packet n = option_map_or (λ s. serves s packet) n true

any_some : (packet : Packet) (ss : List Service) → list_any (lets packet) (map (λ t. Some t) ss) ≡ list_any (λ t. serves t packet) ss
any_some packet [] = refl
any_some packet (s ∷ ss) = ap (λ b. serves s packet || b) (any_some packet ss)

-- The services of a flow match a packet if and only if one of its restrictions does. An unrestricted flow has the single restriction
-- `None`.
pub is_served-service_matches : (packet : Packet) (ss : List Service) → is_served ss packet ≡ list_any (lets packet) (service_matches ss)
is_served-service_matches packet [] = refl
is_served-service_matches packet (s ∷ ss) = sym (any_some packet (s ∷ ss))

all_between : (l h port : ℕ) → port < 2 ^ 16 → (l == 0) ≡ true → (h == 65535) ≡ true → (nat_le l port && nat_le port h) ≡ true
all_between l h port fits low high = grind (arith, nat_tests)

-- A service with all ports matches every port of a packet.
pub all_ports : (s : Service) (port : ℕ) → port < 2 ^ 16 → has_all_ports s ≡ true → (nat_le s.low port && nat_le port s.high) ≡ true
all_ports s port fits all =
    let parts = and_parts (s.low == 0) (s.high == max_port) all in
    all_between s.low s.high port fits parts.0 parts.1
