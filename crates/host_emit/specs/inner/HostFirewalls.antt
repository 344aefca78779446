-- Host firewalls that decide as a policy does, and tables that agree with the events. Callers do not see these; they use the delivery of
-- packets.
use Rattle.std.specs.Prelude.{◌≡◌, ℕ, Bool, true, IsTrue, List, Some, IsSome, ⊤}
use Rattle.host_net.specs.declared.packet.Packet.{Packet}
use Rattle.host_net.specs.declared.packet.CtState.{CtState}
use Rattle.host_net.specs.Host.{Host}
use Rattle.flow_set.specs.declared.flow.Flow.{Flow}
use Rattle.pkt_core.specs.declared.event.Event.{Event}
use Rattle.pkt_core.specs.Connections.{TracksFirstPackets}
use Rattle.pkt_core.specs.Firewall.{may_pass}
use Rattle.pkt_core.specs.inner.FirewallFor.{StatefulArePermitted}
use Rattle.pkt_core.specs.FlowPolicy.{flow_of}
use Rattle.pkt_core.specs.laws.ConnectionTableLaws.{Fits}
use Rattle.pkt_core.specs.Tracking.{ConnectionTable}
use Rattle.emit_core.specs.declared.direction.Direction.{Direction}
use Rattle.host_emit.specs.Delivery.{Firewalls, Tables, at_host}
use Rattle.host_emit.specs.inner.Passing.{host_on}

-- For known packets the verdict of each enforcing host, at either end of the packet's flow, is that of the policy and no other.
pub record AreFirewallsFor (hosts : List Host) (enforces : ℕ → Bool) (firewalls : Firewalls) (Known : Packet → Type 0) (permitted stateful : Packet → Bool) : Type 0 where
  pub given : (side : Direction) (state : CtState) (p : Packet) (f : Flow) → Known p → flow_of hosts p ≡ Some f → IsTrue (enforces (host_on side f))
      → firewalls (host_on side f) side state p (may_pass permitted stateful state p)
  pub only : (side : Direction) (state : CtState) (p : Packet) (f : Flow) (passes : Bool) → Known p → flow_of hosts p ≡ Some f
      → IsTrue (enforces (host_on side f)) → firewalls (host_on side f) side state p passes → passes ≡ may_pass permitted stateful state p
  pub policy : StatefulArePermitted (λ p. ⊤) permitted stateful
  pub flows : (p : Packet) → IsTrue (permitted p) → IsSome (flow_of hosts p)

-- The table of a host agrees with its part of the policy: it tracks only permitted packets of the host that were seen, and the connection
-- of each such packet, stored under its first packet.
pub record HostFits (hosts : List Host) (permitted : Packet → Bool) (h : ℕ) (past : List Event) (kept : ConnectionTable) : Type 0 where
  pub fits : Fits (λ p. ⊤) (at_host hosts permitted h) past kept
  pub first : TracksFirstPackets (at_host hosts permitted h) past kept

-- The tables of all enforcing hosts agree.
abbrev pub AllFit : List Host → (enforces : ℕ → Bool) → (Packet → Bool) → List Event → Tables → Type 0
AllFit hosts enforces permitted past tables = (h : ℕ) → enforces h ≡ true → HostFits hosts permitted h past (tables h)
