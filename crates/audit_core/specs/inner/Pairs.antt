-- Parts of the comparison by pairs: the verdict of the rules at the end of a list, and the search between ranges of addresses. Callers use
-- `Pairs` instead.
use Rattle.std.specs.Prelude.{◌≡◌, ◌≢◌, ◌↔◌, ℕ, Bool, ◌||◌, IsTrue, if◌then◌else◌, ◌++◌, List, Option, Some, None, map}
use Rattle.std.specs.List.{All}
use Rattle.host_net.specs.declared.packet.Packet.{Packet}
use Rattle.host_net.specs.declared.packet.CtState.{CtState}
use Rattle.host_net.specs.declared.packet.CtState.TheVariants.{New, Established}
use Rattle.host_net.specs.Host.{owner_of}
use Rattle.host_net.specs.Packet.{IsPacket, swap_of}
use Rattle.header_space.specs.declared.packet_box.PacketBox.{PacketBox}
use Rattle.header_space.specs.Boxes.{IsIn}
use Rattle.header_space.specs.Owners.{GoesBetween, IsRange, LiesIn, LiesInOne}
use Rattle.header_space.specs.Searching.{Improves}
use Rattle.audit_core.specs.declared.difference.Difference.{Difference}
use Rattle.audit_core.specs.declared.difference.Direction.{Direction}
use Rattle.audit_core.specs.declared.kind.Kind.{Kind}
use Rattle.audit_core.specs.declared.kind.Kind.TheVariants.{Alone, AfterSwap, AfterBoth}
use Rattle.audit_core.specs.declared.list_end.Ends.{Ends}
use Rattle.header_space.specs.declared.address_range.AddressRange.{AddressRange}
use Rattle.audit_core.specs.declared.sources.Sender.{Sender}
use Rattle.audit_core.specs.declared.sources.Source.{Source}
use Rattle.audit_core.specs.inner.Faults.{expected_at}
use Rattle.audit_core.specs.Pairs.{Case, AreListedFor, DiffersAt}
use Rattle.rules_space.specs.Rules.{AnyRules, filter_of}
use Rattle.audit_core.specs.Sides.{Sides}

-- ---- The end of a list

-- A packet is established if its swap passed.
abbrev pub state_after : Bool → CtState
state_after passed = if passed then Established else New

-- The rules for packets, together with the rules for their swaps, forward p at the end of the list of that kind, or drop it.
abbrev pub EndsBy : AnyRules → AnyRules → Kind → Packet → Bool → Type 0
EndsBy rules swaps Alone p passes = filter_of rules New p passes
EndsBy rules swaps AfterSwap p passes =
    (passed : Bool) × filter_of swaps New (swap_of p) passed × filter_of rules (state_after passed) p passes
EndsBy rules swaps AfterBoth p passes = (first : Bool) × filter_of rules New p first
    × (passed : Bool) × filter_of swaps New (swap_of p) passed × filter_of rules (state_after (first || passed)) p passes

-- The rules forward or drop p in this way at the end of the list of that kind, and the policy expects the opposite.
pub record DiffersBy (e : Ends) (kind : Kind) (p : Packet) (forwards : Bool) : Type 0 where
  pub ends : EndsBy e.part.rules e.swaps.rules kind p forwards
  pub other : forwards ≢ expected_at e.part kind p

-- The rules differ from the policy at p in that direction, or in any direction.
abbrev pub HoldsOf : Ends → Option Direction → Packet → Type 0
HoldsOf e None p = (kind : Kind) × (forwards : Bool) × DiffersBy e kind p forwards
HoldsOf e (Some direction) p = DiffersBy e direction.kind p direction.forwards

-- Both differ at the same packets of the box.
abbrev pub HaveSameEnds : PacketBox → Ends → Ends → Type 0
HaveSameEnds b e f = (p : Packet) → IsIn b p → (direction : Option Direction) → (HoldsOf f direction p ↔ HoldsOf e direction p)

-- The two sides differ at the end of a list at p.
abbrev pub IsDifferent : Sides → Packet → Type 0
IsDifferent sides p = (kind : Kind) × (forwards : Bool) × DiffersAt sides kind p forwards

-- The two sides differ at p in that direction, or in any direction.
abbrev pub DiffersSo : Sides → Option Direction → Packet → Type 0
DiffersSo sides None p = IsDifferent sides p
DiffersSo sides (Some direction) p = DiffersAt sides direction.kind p direction.forwards

-- No packet differs.
abbrev pub AreSame : Sides → Type 0
AreSame sides = (p : Packet) → IsPacket p → IsDifferent sides p → ⊥

-- ---- Packets between ranges

-- The range of all addresses.
abbrev pub every_address : AddressRange
every_address = record { first = 0; last = 4294967295 }

-- Packet p goes between the ranges and has the property.
abbrev pub HoldsBetween : (Packet → Type 0) → (from to : List AddressRange) → Packet → Type 0
HoldsBetween Holds from to p = GoesBetween from to p × Holds p

-- The result is the first packet between the ranges with the property, or `None` if no packet between them has it.
abbrev pub IsFoundBetween : (Packet → Type 0) → (from to : List AddressRange) → Option Packet → Type 0
IsFoundBetween Holds from to found = Improves (HoldsBetween Holds from to) None found

-- ---- Sources

abbrev pub ranges_in : List Source → List AddressRange
ranges_in sources = map (λ s. s.range) sources

abbrev pub HasRange : Source → Type 0
HasRange s = IsRange s.range

-- The range of the source is not empty, and the source differs at exactly the packets from it at which the two sides differ.
pub record IsSource (sides : Sides) (s : Source) : Type 0 where
  pub some : HasRange s
  pub same : (direction : Option Direction) (p : Packet) → IsPacket p → LiesIn s.range p.src → (HoldsOf s.ends direction p ↔ DiffersSo sides direction p)

-- If the source differs at some packet from its range, the answer is true.
abbrev pub SaysWhether : Source → Bool → Type 0
SaysWhether s answer = (p : Packet) → IsPacket p → LiesIn s.range p.src → HoldsOf s.ends None p → IsTrue answer

-- The sources are within the ranges. They contain each address in the ranges from which some packet differs.
pub record AreSources (sides : Sides) (ranges : List AddressRange) (sources : List Source) : Type 0 where
  pub each : All (IsSource sides) sources
  pub within : (a : ℕ) → LiesInOne (ranges_in sources) a → LiesInOne ranges a
  pub covered : (p : Packet) → IsPacket p → LiesInOne ranges p.src → IsDifferent sides p → LiesInOne (ranges_in sources) p.src

-- The sources belong to the owner. They contain each of its addresses from which some packet differs.
pub record IsSender (sides : Sides) (s : Sender) : Type 0 where
  pub each : All (IsSource sides) s.sources.items
  pub owned : (a : ℕ) → LiesInOne (ranges_in s.sources.items) a → owner_of sides.policy.site.hosts a ≡ s.owner
  pub covered : (p : Packet) → IsPacket p → owner_of sides.policy.site.hosts p.src ≡ s.owner → IsDifferent sides p
      → LiesInOne (ranges_in s.sources.items) p.src

-- ---- Lists of differences

-- The new list is the old list with the lists for the cases appended.
abbrev pub AreAdded : Sides → List Case → (old new : List Difference) → Type 0
AreAdded sides cs old new = (ds : List Difference) × (new ≡ old ++ ds) × AreListedFor sides cs ds
