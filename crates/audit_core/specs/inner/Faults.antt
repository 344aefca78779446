-- Faults: packets at the end of whose list the rules differ from the policy, and the result of the search for them. Callers use `Findings`
-- instead.
use Rattle.std.specs.Prelude.{◌≡◌, ◌≢◌, ◌<◌, Bool, true, IsTrue, Option, Some, None}
use Rattle.host_net.specs.declared.packet.Packet.{Packet}
use Rattle.host_net.specs.declared.packet.CtState.{CtState}
use Rattle.host_net.specs.declared.packet.CtState.TheVariants.{New, Established}
use Rattle.host_net.specs.Packet.{IsPacket, swap_of}
use Rattle.header_space.specs.Order.{ComesBefore}
use Rattle.pkt_core.specs.Firewall.{may_pass}
use Rattle.pkt_core.specs.FlowPolicy.{permits, permits_reply_to}
use Rattle.audit_core.specs.declared.kind.Kind.{Kind}
use Rattle.audit_core.specs.declared.kind.Kind.TheVariants.{Alone, AfterSwap, AfterBoth}
use Rattle.audit_core.specs.declared.finding.Finding.{Finding}
use Rattle.audit_core.specs.declared.finding.Finding.TheVariants.{Equal, Differ as Differing}
use Rattle.audit_core.specs.declared.finding.Trace.{Trace}
use Rattle.audit_core.specs.Findings.{place_of, trace_of}
use Rattle.rules_space.specs.Rules.{filter_of}
use Rattle.audit_core.specs.Sides.{Sides}

abbrev pub state_in : Kind → CtState
state_in Alone = New
state_in AfterSwap = Established
state_in AfterBoth = Established

-- The policy expects that p passes at the end of the list of that kind.
abbrev pub expected_at : Sides → Kind → Packet → Bool
expected_at sides kind p = may_pass (permits sides.policy) (permits_reply_to sides.policy) (state_in kind) p

-- The condition applies to the packet in the list of that kind. After its swap the packet is established if the swap is permitted; after
-- itself and its swap, if the packet is permitted.
abbrev pub is_asked : (Packet → Bool) → Kind → Packet → Bool
is_asked permitted Alone p = true
is_asked permitted AfterSwap p = permitted (swap_of p)
is_asked permitted AfterBoth p = permitted p

-- If the condition applies, the rules have the verdict of the policy.
abbrev pub Right : Sides → Kind → Packet → Type 0
Right sides kind p =
    IsTrue (is_asked (permits sides.policy) kind p) → (passes : Bool) → filter_of sides.rules (state_in kind) p passes → passes ≡ expected_at sides kind p

-- The condition applies, and the rules have this verdict, which is not the verdict of the policy.
pub record Wrong (sides : Sides) (kind : Kind) (p : Packet) (passes : Bool) : Type 0 where
  pub asked : IsTrue (is_asked (permits sides.policy) kind p)
  pub said : filter_of sides.rules (state_in kind) p passes
  pub wrong : passes ≢ expected_at sides kind p

-- The packet is a fault for that kind of list.
abbrev pub IsFault : Sides → Kind → Packet → Type 0
IsFault sides kind p = (passes : Bool) × Wrong sides kind p passes

-- The packet is a fault for that kind of list or, for `None`, for some kind.
abbrev pub HasFault : Sides → Option Kind → Packet → Type 0
HasFault sides None p = (kind : Kind) × IsFault sides kind p
HasFault sides (Some kind) p = IsFault sides kind p

-- The rules are right about all packets.
abbrev pub AreRight : Sides → Kind → Type 0
AreRight sides kind = (p : Packet) → IsPacket p → Right sides kind p

-- The rules are wrong about a packet, and right about all packets before it.
pub record IsLeastFault (sides : Sides) (kind : Kind) (trace : Trace) : Type 0 where
  pub at : Packet
  pub packet : IsPacket at
  pub is : trace ≡ trace_of kind at trace.forwards
  pub wrong : Wrong sides kind at trace.forwards
  pub first : (p : Packet) → IsPacket p → ComesBefore p at → Right sides kind p

-- The result is correct for one kind.
abbrev pub IsFaultOf : Sides → Kind → Option Trace → Type 0
IsFaultOf sides kind None = AreRight sides kind
IsFaultOf sides kind (Some trace) = IsLeastFault sides kind trace

pub record IsFirstKind (sides : Sides) (trace : Trace) : Type 0 where
  pub kind : Kind
  pub least : IsLeastFault sides kind trace
  pub earlier : (k : Kind) → place_of k < place_of kind → AreRight sides k

-- The finding is correct for all kinds.
abbrev pub IsSought : Sides → Finding → Type 0
IsSought sides Equal = (kind : Kind) → AreRight sides kind
IsSought sides (Differing trace) = IsFirstKind sides trace
