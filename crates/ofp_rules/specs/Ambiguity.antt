-- Entries with an undefined result for a frame: if several matching entries have the highest priority, a switch may choose any of them
-- (OpenFlow Switch Specification 1.3, section 5.3).
use Rattle.std.specs.Prelude.{◌≡◌, ◌≢◌, ℕ, IsTrue, List, Some, slice_get}
use Rattle.host_net.specs.Packet.{IsPacket}
use Rattle.ofp_rules.specs.declared.entry.Frame.{Frame}
use Rattle.ofp_rules.specs.declared.entry.Frame.TheVariants.{Arp, Ipv4, Other}
use Rattle.ofp_rules.specs.declared.entry.Entry.{Entry}
use Rattle.ofp_rules.specs.Matching.{matches}

-- If the frame has a packet, each field of the packet is in the range of its header field.
abbrev pub IsFrame : Frame → Type 0
IsFrame Arp = Unit {0}
IsFrame (Ipv4 packet) = IsPacket packet
IsFrame Other = Unit {0}

-- The entries e and f match a common frame.
pub record MatchOneFrame (e f : Entry) : Type 0 where
  pub frame : Frame
  pub is : IsFrame frame
  pub by_first : IsTrue (matches frame e)
  pub by_second : IsTrue (matches frame f)

-- The entries e and f contradict each other: they have equal priority and different actions, and match a common frame.
pub record Contradict (e f : Entry) : Type 0 where
  pub equal : e.priority ≡ f.priority
  pub different : e.action ≢ f.action
  pub meet : MatchOneFrame e f

-- The maximum number of entries of a table.
abbrev pub most_entries : ℕ
most_entries = 8192

-- No entry of the list contradicts entry e.
abbrev pub ContradictsNone : List Entry → Entry → Type 0
ContradictsNone entries e = (i : ℕ) (f : Entry) → slice_get entries i ≡ Some f → Contradict f e → ⊥
