-- The chains in which the base chains of a machine continue.
use Rattle.std.specs.Prelude.{◌≡◌, ℕ, ◌<◌, ◌==◌, Bool, false, if◌then◌else◌, List, [], ◌∷◌, ◌++◌, Option, Some, None, length, slice_get, codes}
use Rattle.std.specs.declared.vec.Vec.{Vec}
use Rattle.std.specs.Global.{Global}
use Rattle.host_net.specs.declared.packet.Packet.{Packet}
use Rattle.host_net.specs.declared.packet.CtState.{CtState}
use Rattle.host_net.specs.Host.{Host, owner_of}
use Rattle.host_net.specs.Packet.{IsPacket}
use Rattle.header_space.specs.declared.address_range.AddressRange.{AddressRange}
use Rattle.emit_core.specs.declared.direction.Direction.{Direction}
use Rattle.emit_core.specs.declared.direction.Direction.TheVariants.{Outbound, Inbound}
use Rattle.nft_rules.specs.declared.table.Chain.{Chain}
use Rattle.nft_rules.specs.declared.table.Element.{Element}
use Rattle.nft_rules.specs.declared.table.End.{End}
use Rattle.nft_rules.specs.declared.table.End.TheVariants.{Source, Destination}
use Rattle.nft_rules.specs.declared.table.Rule.{Rule}
use Rattle.nft_rules.specs.declared.table.Rule.TheVariants.{Map}
use Rattle.nft_rules.specs.declared.table.Verdict.{Verdict}
use Rattle.nft_rules.specs.declared.table.Verdict.TheVariants.{Accept, Goto}
use Rattle.nft_rules.specs.Loadable.{AreRules}
use Rattle.nft_rules.specs.Semantics.{Decides, address_at}
use Rattle.nft_local.specs.HostTable.{own_name}

-- The addresses of 127.0.0.0/8.
abbrev pub loopback_range : AddressRange
loopback_range = record { first = 2130706432; last = 2147483647 }

-- The end at which the host has its address, and the other end.
abbrev pub near_end : Direction → End
near_end Outbound = Source
near_end Inbound = Destination

abbrev pub far_end : Direction → End
far_end Outbound = Destination
far_end Inbound = Source

abbrev pub loopback_name : Direction → List ℕ
loopback_name Outbound = codes "output_loopback"
loopback_name Inbound = codes "input_loopback"

-- Host h has this verdict, and no other host has a verdict.
abbrev pub verdict_for : ℕ → Verdict → ℕ → Option Verdict
verdict_for h v j = if j == h then Some v else None

abbrev pub OnlyAt : ℕ → Verdict → List (Option Verdict) → Type 0
OnlyAt h v verdicts = (j : ℕ) (w : Option Verdict) → slice_get verdicts j ≡ Some w → w ≡ verdict_for h v j

-- The rules continue in chain c with the packets whose address at this end is that of host h, and have no verdict on others.
pub record LeadsOwn (hosts : List Host) (end : End) (h c : ℕ) (rules : List Rule) : Type 0 where
  pub loads : (n : ℕ) → c < n → AreRules n rules
  pub own : (chains : List Chain) (state : CtState) (packet : Packet) (chain : Chain) (passes : Bool) → IsPacket packet
      → owner_of hosts (address_at end packet) ≡ Some h → slice_get chains c ≡ Some chain → Decides chains state packet chain.rules.items passes
      → Decides chains state packet rules passes
  pub other : (chains : List Chain) (state : CtState) (packet : Packet) → IsPacket packet → (owner_of hosts (address_at end packet) ≡ Some h → ⊥)
      → Decides chains state packet rules false

-- A verdict on the packets with a loopback address at this end, and other rules behind it.
pub record IsEntry (end : End) (v : Verdict) (behind rules : List Rule) : Type 0 where
  pub elements : Vec Element Global
  pub items : elements.items ≡ record { range = loopback_range; verdict = v } ∷ []
  pub rules_are : rules ≡ Map (record { end = end; elements = elements }) ∷ behind

-- The chain has this name and these rules.
pub record IsChainOf (name : List ℕ) (rules : List Rule) (x : Chain) : Type 0 where
  pub named : x.name.items ≡ name
  pub rules_are : x.rules.items ≡ rules

-- A chain with this name and these rules is added at the end.
abbrev pub AddsChain : List ℕ → List Rule → (old new : List Chain) → Type 0
AddsChain name rules old new = (x : Chain) × (new ≡ old ++ x ∷ []) × IsChainOf name rules x

-- The chain has a verdict on the packets with a loopback address at one end, and continues in chain c with the other packets of host h.
pub record IsEntryChain (hosts : List Host) (near : End) (h c : ℕ) (end : End) (v : Verdict) (x : Chain) : Type 0 where
  pub behind : List Rule
  pub own : LeadsOwn hosts near h c behind
  pub entry : IsEntry end v behind x.rules.items

-- The two chains of a direction. The first one has index m.
pub record IsSide (hosts : List Host) (h : ℕ) (side : Direction) (c m : ℕ) (x y : Chain) : Type 0 where
  pub loopback : IsEntryChain hosts (near_end side) h c (far_end side) Accept x
  pub loopback_named : x.name.items ≡ loopback_name side
  pub own : IsEntryChain hosts (near_end side) h c (near_end side) (Goto m) y
  pub own_named : y.name.items ≡ own_name side

-- The two chains are added at the end.
abbrev pub AddsSide : List Host → ℕ → Direction → ℕ → (old new : List Chain) → Type 0
AddsSide hosts h side c old new = (x : Chain) × (y : Chain) × (new ≡ (old ++ x ∷ []) ++ y ∷ []) × IsSide hosts h side c (length old) x y
