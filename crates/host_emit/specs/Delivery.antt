-- Delivery of packets between hosts with host firewalls, each of which tracks connections independently.
use Rattle.std.specs.Prelude.{◌≡◌, ℕ, Bool, true, false, not, ◌==◌, ◌&&◌, ◌||◌, if◌then◌else◌, IsTrue, IsFalse, List, [], ◌∷◌, Option, Some, None}
use Rattle.std.specs.Option.{option_map_or}
use Rattle.host_net.specs.declared.packet.Packet.{Packet}
use Rattle.host_net.specs.Host.{Host}
use Rattle.flow_set.specs.declared.flow.Flow.{Flow}
use Rattle.pkt_core.specs.declared.event.Event.{Event}
use Rattle.pkt_core.specs.declared.event.Event.TheVariants.{Seen, Forget}
use Rattle.pkt_core.specs.Connections.{TracksFirstPackets}
use Rattle.pkt_core.specs.Firewall.{Filter}
use Rattle.pkt_core.specs.FlowPolicy.{flow_of}
use Rattle.pkt_core.specs.Tracking.{ConnectionTable, after_forget, after_seen, no_connections, state_of}
use Rattle.emit_core.specs.declared.direction.Direction.{Direction}
use Rattle.emit_core.specs.declared.direction.Direction.TheVariants.{Outbound, Inbound}

-- The firewalls of all hosts: each filters the outbound and the inbound packets of its host.
abbrev pub Firewalls : Type 1
Firewalls = ℕ → Direction → Filter

-- The connection table of each host.
abbrev pub Tables : Type 0
Tables = ℕ → ConnectionTable

-- The empty connection table for every host.
abbrev pub empty_tables : Tables
empty_tables h = no_connections

-- Host h decides about a packet: if it enforces the policy, by its firewall in the state of its connection table; otherwise it lets
-- everything pass.
pub record Processes (enforces : ℕ → Bool) (firewalls : Firewalls) (tables : Tables) (h : ℕ) (side : Direction) (p : Packet) (passes : Bool) : Type 0 where
  pub by_firewall : IsTrue (enforces h) → firewalls h side (state_of (tables h) p) p passes
  pub by_none : IsFalse (enforces h) → passes ≡ true

-- The tables after this decision: an enforcing host has tracked the packet; the other tables are unchanged.
abbrev pub after_taken : (enforces : ℕ → Bool) → Tables → ℕ → Packet → Bool → Tables
after_taken enforces tables h p passes i =
    if enforces h then (if h == i then after_seen (tables h) p passes else tables i) else tables i

-- The delivery of a packet, and the tables after it.
pub data Goes (hosts : List Host) (enforces : ℕ → Bool) (firewalls : Firewalls) (tables : Tables) (p : Packet) : Bool → Tables → Type 0 where
  -- The owners of its addresses are not two different hosts: it does not pass, and no host processes it.
  nowhere : flow_of hosts p ≡ None → Goes hosts enforces firewalls tables p false tables
  -- Its sender drops it: no other host processes it.
  stays : {f : Flow} → flow_of hosts p ≡ Some f → Processes enforces firewalls tables f.from Outbound p false
      → Goes hosts enforces firewalls tables p false (after_taken enforces tables f.from p false)
  -- Its sender lets it pass, and its receiver decides.
  reaches_receiver : {f : Flow} {passes : Bool} → flow_of hosts p ≡ Some f → Processes enforces firewalls tables f.from Outbound p true
      → Processes enforces firewalls (after_taken enforces tables f.from p true) f.to Inbound p passes
      → Goes hosts enforces firewalls tables p passes (after_taken enforces (after_taken enforces tables f.from p true) f.to p passes)

-- A run over the events, and the tables after it: each packet that is seen passes or not; a forget event, which has no result, changes
-- every table.
abbrev pub PassRunsTo : List Host → (enforces : ℕ → Bool) → Firewalls → Tables → List Event → List (Option Bool) → Tables → Type 0
PassRunsTo hosts enforces firewalls tables [] [] behind = behind ≡ tables
PassRunsTo hosts enforces firewalls tables (Seen p ∷ events) (Some passes ∷ results) behind =
    (next : Tables) × Goes hosts enforces firewalls tables p passes next × PassRunsTo hosts enforces firewalls next events results behind
PassRunsTo hosts enforces firewalls tables (Forget p ∷ events) (None ∷ results) behind =
    PassRunsTo hosts enforces firewalls (λ h. after_forget (tables h) p) events results behind
PassRunsTo hosts enforces firewalls tables events results behind = ⊥

-- A run over the events, with some tables after it.
abbrev pub PassRuns : List Host → (enforces : ℕ → Bool) → Firewalls → Tables → List Event → List (Option Bool) → Type 0
PassRuns hosts enforces firewalls tables events results = (behind : Tables) × PassRunsTo hosts enforces firewalls tables events results behind

-- Host h sends or receives the packets of the flow.
abbrev pub is_end : Option Flow → ℕ → Bool
is_end None h = false
is_end (Some f) h = f.from == h || f.to == h

-- The packets that satisfy a test and that host h sends or receives.
abbrev pub at_host : List Host → (Packet → Bool) → ℕ → Packet → Bool
at_host hosts test h p = is_end (flow_of hosts p) h && test p

-- Each enforcing host tracks exactly the first packets of the connections that it is an end of.
abbrev pub AllKeepFirst : List Host → (enforces : ℕ → Bool) → (Packet → Bool) → List Event → Tables → Type 0
AllKeepFirst hosts enforces permitted past tables =
    (h : ℕ) → IsTrue (enforces h) → TracksFirstPackets (at_host hosts permitted h) past (tables h)

-- The packet belongs to a flow of which neither end enforces the policy.
abbrev pub is_unguarded : List Host → (enforces : ℕ → Bool) → Packet → Bool
is_unguarded hosts enforces p = option_map_or (λ f. not (enforces f.from) && not (enforces f.to)) (flow_of hosts p) false

-- The packet satisfies the test, or belongs to a flow of which neither end enforces the policy.
abbrev pub or_unenforced : List Host → (enforces : ℕ → Bool) → (Packet → Bool) → Packet → Bool
or_unenforced hosts enforces test p = test p || is_unguarded hosts enforces p
