-- Runs of a firewall that tracks connections and has the verdicts of a policy.
use Rattle.std.specs.Prelude.{◌≡◌, Bool, List, Option, ⊤}
use Rattle.host_net.specs.declared.packet.Packet.{Packet}
use Rattle.pkt_core.specs.declared.event.Event.{Event}
use Rattle.pkt_core.specs.inner.Connections.{TracksConnections}
use Rattle.pkt_core.specs.Expected.{AreExpected}
use Rattle.pkt_core.specs.Firewall.{may_pass}
use Rattle.pkt_core.specs.inner.FirewallFor.{StatefulArePermitted}
use Rattle.pkt_core.specs.Tracking.{ConnectionTable, Runs}
use Rattle.pkt_core.specs.inner.ConnectionTable.{kept_after}

-- A run of a firewall with the verdicts of a policy.
abbrev pub RunsBy : (permitted stateful : Packet → Bool) → ConnectionTable → List Event → List (Option Bool) → Type 0
RunsBy permitted stateful = Runs (λ state p passes. passes ≡ may_pass permitted stateful state p)

-- For every policy and all events, a run from this table has the expected results and tracks the connections, and such a run exists.
pub record TracksAsExpected (kept : ConnectionTable) : Type 0 where
  pub answers : (permitted stateful : Packet → Bool) → StatefulArePermitted (λ p. ⊤) permitted stateful
      → (events : List Event) (results : List (Option Bool)) →
      RunsBy permitted stateful kept events results → AreExpected permitted stateful events results
  pub connections : (permitted stateful : Packet → Bool) → StatefulArePermitted (λ p. ⊤) permitted stateful
      → (events : List Event) (results : List (Option Bool)) →
      RunsBy permitted stateful kept events results → TracksConnections permitted events (kept_after kept events results)
  pub some : (permitted stateful : Packet → Bool) → StatefulArePermitted (λ p. ⊤) permitted stateful → (events : List Event)
      → (results : List (Option Bool)) × RunsBy permitted stateful kept events results
