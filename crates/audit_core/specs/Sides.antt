-- The two sides of an audit, and their agreement, difference and equivalence.
use Rattle.std.specs.Prelude.{Bool, true, List}
use Rattle.host_net.specs.declared.packet.Packet.{Packet}
use Rattle.host_net.specs.declared.packet.CtState.{CtState}
use Rattle.host_net.specs.Packet.{IsPacket}
use Rattle.pkt_core.specs.declared.event.Event.{Event}
use Rattle.pkt_core.specs.AnyTracking.{IsSoundFor}
use Rattle.pkt_core.specs.Expected.{Expected}
use Rattle.pkt_core.specs.Filter.{ForwardsAsExpected}
use Rattle.pkt_core.specs.FlowPolicy.{FlowPolicy, permits, permits_reply_to}
use Rattle.audit_core.specs.Agreement.{AgreeOn, DifferOn}
use Rattle.audit_core.specs.Lists.{DifferAfter}
use Rattle.rules_space.specs.Rules.{AnyRules, filter_of}

-- The two sides: a policy between hosts, and rules.
pub record Sides : Type 0 where
  pub policy : FlowPolicy
  pub rules : AnyRules

abbrev pub sides_of : FlowPolicy → AnyRules → Sides
sides_of policy rules = record { policy = policy; rules = rules }

-- The two sides agree on a list of events.
abbrev pub Agree : Sides → List Event → Type 0
Agree sides = AgreeOn (filter_of sides.rules) (permits sides.policy) (permits_reply_to sides.policy)

-- The two sides differ on a list of events.
abbrev pub Differ : Sides → List Event → Type 0
Differ sides = DifferOn (filter_of sides.rules) (permits sides.policy) (permits_reply_to sides.policy)

-- The two sides differ at the end of a list: after these events, the packet passes and is not expected to pass, or it does not pass and is
-- expected to pass.
abbrev pub DifferThen : Sides → List Event → Packet → Bool → Type 0
DifferThen sides = DifferAfter (filter_of sides.rules) (permits sides.policy) (permits_reply_to sides.policy)

-- Over every list of events with valid packets, from an empty connection table, the rules forward exactly the packets that the policy and
-- its answers expect.
abbrev pub AreEquivalent : Sides → Type 0
AreEquivalent sides = ForwardsAsExpected (filter_of sides.rules) sides.policy

-- With any connection tracking, after every list of events, a packet in a state that is sound for the policy passes only if it is expected.
abbrev pub AreSafe : Sides → Type 0
AreSafe sides = (past : List Event) (packet : Packet) (state : CtState) → IsPacket packet → IsSoundFor (permits sides.policy) past packet state
    → filter_of sides.rules state packet true → Expected (permits sides.policy) (permits_reply_to sides.policy) past packet
