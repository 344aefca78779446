-- The packets that pass in a list of events if the machines of each specific host have the firewall of this host.
use Rattle.std.specs.Prelude.{◌≡◌, ℕ, Bool, true, IsTrue, List, Option}
use Rattle.host_net.specs.declared.packet.Packet.{Packet}
use Rattle.host_net.specs.Host.{Host}
use Rattle.pkt_core.specs.declared.event.Event.{Event}
use Rattle.pkt_core.specs.Events.{SeenAt}
use Rattle.pkt_core.specs.AnyTracking.{IsSound}
use Rattle.pkt_core.specs.Expected.{AreExpected, Expected}
use Rattle.pkt_core.specs.Tracking.{state_of}
use Rattle.pkt_core.specs.FlowPolicy.{FlowPolicy, permits, permits_reply_to}
use Rattle.host_emit.specs.HostEnforcement.{IsExternal}
use Rattle.host_emit.specs.LocalLayout.{is_specific}
use Rattle.host_emit.specs.Delivery.{AllKeepFirst, Firewalls, Goes, PassRuns, PassRunsTo, Tables, empty_tables, or_unenforced}

-- Every packet that is seen in the events has valid fields and is not internal to a machine.
abbrev pub AreExternal : List Event → Type 0
AreExternal events = (k : ℕ) (p : Packet) → SeenAt events k p → IsExternal p

-- A run from empty connection tables in which the machines of each enforcing host have the firewall of this host.
abbrev pub RunsWith : (enforces : ℕ → Bool) → Firewalls → List Host → List Event → List (Option Bool) → Type 0
RunsWith enforces firewalls hosts = PassRuns hosts enforces firewalls empty_tables

-- The same with all specific hosts enforcing.
abbrev pub LocalRuns : Firewalls → List Host → List Event → List (Option Bool) → Type 0
LocalRuns firewalls hosts = RunsWith (is_specific hosts) firewalls hosts

-- The same with the connection tables after the run.
abbrev pub LocalRunsTo : Firewalls → List Host → List Event → List (Option Bool) → Tables → Type 0
LocalRunsTo firewalls hosts = PassRunsTo hosts (is_specific hosts) firewalls empty_tables

-- The enforcing hosts are specific.
abbrev pub AreSpecific : List Host → (enforces : ℕ → Bool) → Type 0
AreSpecific hosts enforces = (h : ℕ) → IsTrue (enforces h) → IsTrue (is_specific hosts h)

-- The packet passes with some connection tables of the hosts, each of which assigns it a state that is sound after `past`. Anything may
-- choose these tables, anew for each packet.
pub record PassesSoundly (enforces : ℕ → Bool) (firewalls : Firewalls) (hosts : List Host) (past : List Event) (packet : Packet) : Type 0 where
  pub tables : Tables
  pub behind : Tables
  pub sound : (h : ℕ) → IsSound past packet (state_of (tables h) packet)
  pub passes : Goes hosts enforces firewalls tables packet true behind

-- For every list of events with external packets a run exists and its results are unique: a packet passes if and only if the policy and its
-- answers expect it.
pub record DeliversAsExpected (firewalls : Firewalls) (policy : FlowPolicy) : Type 0 where
  pub expected : (events : List Event) (results : List (Option Bool)) → AreExternal events → LocalRuns firewalls policy.site.hosts events results
      → AreExpected (permits policy) (permits_reply_to policy) events results
  -- If only some hosts enforce, the packets between two hosts that do not enforce pass as well, and nothing else changes: a packet with an
  -- enforcing end passes if and only if it is expected.
  pub partial_deployment : (enforces : ℕ → Bool) → AreSpecific policy.site.hosts enforces → (events : List Event) (results : List (Option Bool)) → AreExternal events
      → RunsWith enforces firewalls policy.site.hosts events results → AreExpected (or_unenforced policy.site.hosts enforces (permits policy)) (permits_reply_to policy) events results
  -- Each specific host tracks exactly the first packets of the connections that it is an end of.
  pub first : (events : List Event) (results : List (Option Bool)) (behind : Tables) → AreExternal events
      → LocalRunsTo firewalls policy.site.hosts events results behind → AllKeepFirst policy.site.hosts (is_specific policy.site.hosts) (permits policy) events behind
  pub some : (events : List Event) → AreExternal events → (results : List (Option Bool)) × LocalRuns firewalls policy.site.hosts events results
  pub one : (events : List Event) (results others : List (Option Bool)) → AreExternal events → LocalRuns firewalls policy.site.hosts events results
      → LocalRuns firewalls policy.site.hosts events others → results ≡ others
  -- With any connection tracking, after every list of events, whatever passed of them, only expected packets pass in sound states, and all
  -- permitted packets pass in all states.
  pub only_expected : (past : List Event) (packet : Packet) → IsExternal packet → PassesSoundly (is_specific policy.site.hosts) firewalls policy.site.hosts past packet
      → Expected (permits policy) (permits_reply_to policy) past packet
  pub partial_only_expected : (enforces : ℕ → Bool) → AreSpecific policy.site.hosts enforces → (past : List Event) (packet : Packet) → IsExternal packet
      → PassesSoundly enforces firewalls policy.site.hosts past packet → Expected (or_unenforced policy.site.hosts enforces (permits policy)) (permits_reply_to policy) past packet
  pub all_permitted : (enforces : ℕ → Bool) → AreSpecific policy.site.hosts enforces → (tables behind : Tables) (packet : Packet) (passes : Bool) → IsExternal packet
      → IsTrue (permits policy packet) → Goes policy.site.hosts enforces firewalls tables packet passes behind → IsTrue passes
