-- The lexicographic order of packets: by source, destination, protocol, source port and destination port.
use Rattle.std.specs.Prelude.{◌≡◌, ◌⊎◌, ℕ, ◌<◌}
use Rattle.host_net.specs.declared.packet.Packet.{Packet}

-- One step of the lexicographic order: a is less than b, or a equals b and `Later` holds for the later fields.
abbrev pub comes_first : ℕ → ℕ → Type 0 → Type 0
comes_first a b Later = (a < b) ⊎ ((a ≡ b) × Later)

-- Packet p comes before packet q.
abbrev pub ComesBefore : Packet → Packet → Type 0
ComesBefore p q = comes_first p.src q.src (comes_first p.dst q.dst (comes_first p.proto q.proto (comes_first p.sport q.sport (p.dport < q.dport))))
