-- Which numbers of the intervals of a box match. Not visible to callers, which use `Matching`.
use Rattle.std.specs.Prelude.{◌≡◌, ◌⊎◌, ℕ, ◌≤◌, false, true}
use Rattle.host_net.specs.declared.packet.Packet.{Packet}
use Rattle.header_space.specs.declared.packet_box.PacketBox.{PacketBox}
use Rattle.header_space.specs.declared.header_match.End.{End}
use Rattle.header_space.specs.declared.header_match.Ends.{Ends}

-- The end lies in the interval from `first` to `last`.
abbrev pub IsEnd : ℕ → ℕ → End → Type 0
IsEnd first last alike = (first ≤ alike.last) × (alike.last ≤ last)

pub record AreEnds (b : PacketBox) (ends : Ends) : Type 0 where
  pub src : IsEnd b.least.src b.greatest.src ends.src
  pub dst : IsEnd b.least.dst b.greatest.dst ends.dst
  pub proto : IsEnd b.least.proto b.greatest.proto ends.proto
  pub sport : IsEnd b.least.sport b.greatest.sport ends.sport
  pub dport : IsEnd b.least.dport b.greatest.dport ends.dport

-- Number n is from `first` to the end: all of these numbers match, or none of them does.
abbrev pub Known : ℕ → End → ℕ → Type 0
Known first alike n = (first ≤ n) × (n ≤ alike.last)

pub record AllFit (b : PacketBox) (ends : Ends) (p : Packet) : Type 0 where
  pub fit : (ends.src.fits ≡ true) × (ends.dst.fits ≡ true) × (ends.proto.fits ≡ true) × (ends.sport.fits ≡ true) × (ends.dport.fits ≡ true)
  pub src : Known b.least.src ends.src p.src
  pub dst : Known b.least.dst ends.dst p.dst
  pub proto : Known b.least.proto ends.proto p.proto
  pub sport : Known b.least.sport ends.sport p.sport
  pub dport : Known b.least.dport ends.dport p.dport

abbrev pub Fails : ℕ → End → ℕ → Type 0
Fails first alike n = (alike.fits ≡ false) × Known first alike n

abbrev pub OneFails : PacketBox → Ends → Packet → Type 0
OneFails b ends p =
    Fails b.least.src ends.src p.src
    ⊎ (Fails b.least.dst ends.dst p.dst
    ⊎ (Fails b.least.proto ends.proto p.proto ⊎ (Fails b.least.sport ends.sport p.sport ⊎ Fails b.least.dport ends.dport p.dport)))
