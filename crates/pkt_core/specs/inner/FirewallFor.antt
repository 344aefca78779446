-- Filters that decide as a policy does, for the packets that satisfy `Known`.
use Rattle.std.specs.Prelude.{◌≡◌, Bool, IsTrue, ℕ, List}
use Rattle.host_net.specs.declared.packet.Packet.{Packet}
use Rattle.host_net.specs.declared.packet.CtState.{CtState}
use Rattle.pkt_core.specs.Firewall.{Filter, may_pass}
use Rattle.pkt_core.specs.declared.event.Event.{Event}
use Rattle.pkt_core.specs.Events.{SeenAt}

-- Stateful packets are permitted.
abbrev pub StatefulArePermitted : (Packet → Type 0) → (permitted stateful : Packet → Bool) → Type 0
StatefulArePermitted Known permitted stateful = (p : Packet) → Known p → IsTrue (stateful p) → IsTrue (permitted p)

-- For known packets the filter has the verdict of the policy and no other.
pub record IsFirewallFor (filter : Filter) (Known : Packet → Type 0) (permitted stateful : Packet → Bool) : Type 0 where
  pub given : (state : CtState) (p : Packet) → Known p → filter state p (may_pass permitted stateful state p)
  pub only : (state : CtState) (p : Packet) (passes : Bool) → Known p → filter state p passes → passes ≡ may_pass permitted stateful state p
  pub policy : StatefulArePermitted Known permitted stateful

-- Every packet that is seen is known.
abbrev pub AllKnown : (Packet → Type 0) → List Event → Type 0
AllKnown Known events = (k : ℕ) (p : Packet) → SeenAt events k p → Known p
