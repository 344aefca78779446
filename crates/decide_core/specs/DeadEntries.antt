-- Dead entries: the entries of a flow table that decide no IPv4 packet.
use Rattle.std.specs.Prelude.{◌↔◌, ℕ, ◌<◌, List, length, Some}
use Rattle.std.specs.List.{Contains}
use Rattle.std.specs.List.Sorted.{IsStrictlyIncreasing}
use Rattle.host_net.specs.declared.packet.Packet.{Packet}
use Rattle.host_net.specs.Packet.{IsPacket}
use Rattle.ofp_rules.specs.declared.entry.Entry.{Entry}
use Rattle.ofp_rules.specs.declared.entry.Frame.TheVariants.{Ipv4}
use Rattle.ofp_rules.specs.Deciders.{IsEntryDecider}

-- Entry k, from 0, is dead: it decides no IPv4 packet.
abbrev pub IsDeadEntry : List Entry → ℕ → Type 0
IsDeadEntry entries k = (p : Packet) → IsPacket p → IsEntryDecider entries (Ipv4 p) (Some k) → ⊥

-- The numbers are those of all dead entries, in ascending order.
pub record AreDeadEntries (entries : List Entry) (numbers : List ℕ) : Type 0 where
  pub ascending : IsStrictlyIncreasing numbers
  pub exact : (k : ℕ) → Contains numbers k ↔ ((k < length entries) × IsDeadEntry entries k)
