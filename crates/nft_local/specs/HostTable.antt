-- The table for the machines of a host (nft(8), "CHAINS"): the base chains `input` and `output` continue in one of its chains each.
use Rattle.std.specs.Prelude.{◌≡◌, ℕ, ◌≤◌, Bool, List, Some, length, slice_get, codes}
use Rattle.std.specs.List.{AllByRecursion}
use Rattle.host_net.specs.declared.packet.Packet.{Packet}
use Rattle.host_net.specs.declared.packet.CtState.{CtState}
use Rattle.pkt_core.specs.FlowPolicy.{FlowPolicy}
use Rattle.emit_core.specs.declared.direction.Direction.{Direction}
use Rattle.emit_core.specs.declared.direction.Direction.TheVariants.{Outbound, Inbound}
use Rattle.host_emit.specs.HostEnforcement.{EnforcesAtHost}
use Rattle.nft_rules.specs.declared.table.Chain.{Chain}
use Rattle.nft_rules.specs.Loadable.{AreDistinct, AreNamed, LeadBack, chain_limit}
use Rattle.nft_rules.specs.Semantics.{Decides}
use Rattle.nft_read.specs.Reading.{ChainFits}

-- The name of the chain in which a base chain continues: `output` for outbound packets, and `input` for inbound packets.
abbrev pub own_name : Direction → List ℕ
own_name Outbound = codes "output_own"
own_name Inbound = codes "input_own"

-- A chain has the name for this direction, and its rules decide the packet.
pub record PassesMachine (chains : List Chain) (side : Direction) (state : CtState) (packet : Packet) (passes : Bool) : Type 0 where
  pub index : ℕ
  pub chain : Chain
  pub there : slice_get chains index ≡ Some chain
  pub named : chain.name.items ≡ own_name side
  pub decides : Decides chains state packet chain.rules.items passes

-- A chain has the name for this direction.
abbrev pub HasOwnChain : List Chain → Direction → Type 0
HasOwnChain chains side = (index : ℕ) × (chain : Chain) × (slice_get chains index ≡ Some chain) × (chain.name.items ≡ own_name side)

-- The chains can be loaded, as those of a table whose other rules are those of the base chains: `forward` has no rules, and the other two
-- have a chain to continue in. Addresses have 32 bits, and ports 16.
pub record CanBeLoaded (chains : List Chain) : Type 0 where
  pub few : length chains ≤ chain_limit
  pub back : LeadBack chains
  pub named : AreNamed chains
  pub distinct : AreDistinct chains
  pub continues : (side : Direction) → HasOwnChain chains side
  pub fits : AllByRecursion ChainFits chains

-- The chains can be loaded, and enforce the policy for host h.
pub record IsMachineTable (policy : FlowPolicy) (h : ℕ) (chains : List Chain) : Type 0 where
  pub loadable : CanBeLoaded chains
  pub enforces : EnforcesAtHost (PassesMachine chains) policy h
