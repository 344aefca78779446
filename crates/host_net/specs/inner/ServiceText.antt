-- Notation of services, and the service that a string denotes.
use Rattle.std.specs.Prelude.{◌≡◌, ◌⊎◌, ◌<◌, ℕ, IsTrue, List, ◌++◌, decimal, codes}
use Rattle.host_net.specs.declared.service.Service.{Service}
use Rattle.host_net.specs.Service.{has_ports, has_all_ports}
use Rattle.host_net.specs.inner.Service.{is_service}
use Rattle.host_net.specs.ServiceText.{protocol_text}

-- `tcp`: every packet of the protocol.
abbrev pub SpellsProtocol : List ℕ → Service → Type 0
SpellsProtocol text s = IsTrue (has_all_ports s) × (text ≡ protocol_text s.proto)

-- `tcp/80`: one port.
abbrev pub SpellsPort : List ℕ → Service → Type 0
SpellsPort text s = IsTrue (has_ports s.proto) × (s.low ≡ s.high) × (text ≡ protocol_text s.proto ++ (codes "/" ++ decimal s.low))

-- `tcp/80-90`: the first and the last port of a range.
abbrev pub SpellsPorts : List ℕ → Service → Type 0
SpellsPorts text s =
    IsTrue (has_ports s.proto) × (s.low < s.high) × (text ≡ protocol_text s.proto ++ (codes "/" ++ (decimal s.low ++ (codes "-" ++ decimal s.high))))

-- The strings that denote a service.
pub record IsServiceSpelling (text : List ℕ) (s : Service) : Type 0 where
  pub service : IsTrue (is_service s)
  pub written : SpellsProtocol text s ⊎ (SpellsPort text s ⊎ SpellsPorts text s)
