-- The filters of a host's machines that enforce a policy on the host, and the chains of iptables as such filters.
use Rattle.std.specs.Prelude.{◌≡◌, ℕ, Bool, true, ◌&&◌, IsTrue, IsFalse, List}
use Rattle.host_net.specs.declared.packet.Packet.{Packet}
use Rattle.host_net.specs.declared.packet.CtState.{CtState}
use Rattle.host_net.specs.Host.{Host, covers_any}
use Rattle.host_net.specs.Packet.{IsPacket}
use Rattle.host_net.specs.Prefix.{covers}
use Rattle.host_net.specs.Verdict.{verdict_if}
use Rattle.ipt_rules.specs.Chain.{Chain}
use Rattle.ipt_rules.specs.Semantics.{HasVerdictIn}
use Rattle.pkt_core.specs.Firewall.{Filter}
use Rattle.pkt_core.specs.FlowPolicy.{FlowPolicy, lets_pass}
use Rattle.emit_core.specs.declared.direction.Direction.{Direction}
use Rattle.emit_core.specs.OtherAddress.{other_address}
use Rattle.emit_core.specs.Directions.{other_direction}
use Rattle.host_emit.specs.LocalLayout.{entry_of, loopback, prefixes_of}

-- Both addresses are in 127.0.0.0/8.
abbrev pub is_internal : Packet → Bool
is_internal packet = covers loopback packet.src && covers loopback packet.dst

-- In this direction the packet has an address of host h at the host's end.
abbrev pub is_own : Direction → List Host → ℕ → Packet → Bool
is_own side hosts h packet = covers_any (prefixes_of hosts h) (other_address (other_direction side) packet)

-- The chains of a machine as a filter of its outbound packets, and as a filter of its inbound packets.
abbrev pub PassesOn : List Chain → Direction → Filter
PassesOn chains side state packet passes = HasVerdictIn chains (entry_of side) packet state (verdict_if passes)

-- A packet that is not internal to a machine.
abbrev pub IsExternal : Packet → Type 0
IsExternal packet = IsPacket packet × IsFalse (is_internal packet)

-- The filters of outbound and of inbound packets enforce the policy for host h: in either direction exactly those packets of host h pass
-- that the policy allows; packets internal to a machine pass.
pub record EnforcesAtHost (passes : Direction → Filter) (policy : FlowPolicy) (h : ℕ) : Type 0 where
  pub given : (side : Direction) (state : CtState) (packet : Packet) → IsExternal packet
      → passes side state packet (is_own side policy.site.hosts h packet && lets_pass policy packet state)
  pub only : (side : Direction) (state : CtState) (packet : Packet) (verdict : Bool) → IsExternal packet → passes side state packet verdict
      → verdict ≡ (is_own side policy.site.hosts h packet && lets_pass policy packet state)
  pub internal : (side : Direction) (state : CtState) (packet : Packet) → IsPacket packet → IsTrue (is_internal packet) → passes side state packet true
