-- Notation of the values of `-p`, `--sport` and `--dport` (iptables(8), "PARAMETERS"; iptables-extensions(8), "tcp" and "udp").
use Rattle.std.specs.Prelude.{◌≡◌, ◌⊎◌, ◌<◌, ◌≤◌, ◌^◌, ℕ, List, [], ◌∷◌, ◌++◌, Option, Some, bytes_eq, codes, decimal}
use Rattle.std.specs.Map.{lookup}
use Rattle.host_net.specs.Service.{max_port}
use Rattle.host_net.specs.ServiceText.{protocol_text}

-- The protocol with a name other than `icmp`, `tcp` and `udp` (IANA, Assigned Internet Protocol Numbers).
abbrev pub other_protocol : List ℕ → Option ℕ
other_protocol word = lookup (bytes_eq word) ((codes "esp", 50) ∷ (codes "ah", 51) ∷ (codes "sctp", 132) ∷ [])

-- A protocol, by its name or by its number. 0 is rejected, since iptables takes it as any protocol.
pub record IsProtocolWord (word : List ℕ) (proto : ℕ) : Type 0 where
  pub positive : 0 < proto
  pub fits : proto < 2 ^ 8
  pub written : (word ≡ protocol_text proto) ⊎ ((word ≡ decimal proto) ⊎ (other_protocol word ≡ Some proto))

-- Ports: one port, or a range with a colon (58) between the first and the last port, one of which may be omitted.
pub record ArePortsWord (word : List ℕ) (low high : ℕ) : Type 0 where
  pub order : low ≤ high
  pub fits : high ≤ max_port
  pub written : ((word ≡ decimal low) × (low ≡ high))
      ⊎ ((word ≡ decimal low ++ (58 ∷ decimal high))
      ⊎ (((word ≡ decimal low ++ (58 ∷ [])) × (high ≡ max_port))
      ⊎ ((word ≡ 58 ∷ decimal high) × (low ≡ 0))))
