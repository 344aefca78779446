-- Filters with the same verdicts on packets have the same runs over valid packets, and so forward alike.
use Rattle.std.proofs.Common.{ℕ, zero, suc, Bool, List, [], ◌∷◌, Option, None, Some, refl}
use Rattle.pkt_core.specs.declared.event.Event.{Event}
use Rattle.pkt_core.specs.declared.event.Event.TheVariants.{Forget, Seen}
use Rattle.pkt_core.specs.Filter.{ArePackets, ForwardsAsExpected}
use Rattle.pkt_core.specs.Firewall.{Filter}
use Rattle.pkt_core.specs.FlowPolicy.{FlowPolicy}
use Rattle.pkt_core.specs.Tracking.{ConnectionTable, Runs, after_forget, after_seen, no_connections, state_of}
use Rattle.report_core.specs.Trace.{IsTrace}
use Rattle.run_core.specs.Filters.{AreEquivalentFilters}

pub other_way : (f g : Filter) → AreEquivalentFilters f g → AreEquivalentFilters g f
other_way f g alike state p passes is = let both = alike state p passes is in (both.1, both.0)

later : (event : Event) (events : List Event) → ArePackets (event ∷ events) → ArePackets events
later event events packets k p seen = packets (suc k) p seen

runs_alike : (f g : Filter) → AreEquivalentFilters f g → (kept : ConnectionTable) (events : List Event) (results : List (Option Bool)) → ArePackets events
    → Runs f kept events results → Runs g kept events results
runs_alike f g alike kept [] [] packets run = run
runs_alike f g alike kept [] (r ∷ results) packets run = absurd run
runs_alike f g alike kept (Seen p ∷ events) (Some passes ∷ results) packets run = (
  (alike (state_of kept p) p passes (packets zero p refl)).0 run.0,
  runs_alike f g alike (after_seen kept p passes) events results (later (Seen p) events packets) run.1,
)
runs_alike f g alike kept (Seen p ∷ events) (None ∷ results) packets run = absurd run
runs_alike f g alike kept (Seen p ∷ events) [] packets run = absurd run
runs_alike f g alike kept (Forget p ∷ events) (None ∷ results) packets run =
    runs_alike f g alike (after_forget kept p) events results (later (Forget p) events packets) run
runs_alike f g alike kept (Forget p ∷ events) (Some passes ∷ results) packets run = absurd run
runs_alike f g alike kept (Forget p ∷ events) [] packets run = absurd run

pub forwards_alike : (f g : Filter) → AreEquivalentFilters f g → (policy : FlowPolicy) → ForwardsAsExpected f policy → ForwardsAsExpected g policy
forwards_alike f g alike policy forwards = record {
  expected = λ events results packets run. forwards.expected events results packets (back events results packets run);
  some = λ events packets.
      let one = forwards.some events packets in
      (one.0, runs_alike f g alike no_connections events one.0 packets one.1);
  one = λ events results others packets run other.
      forwards.one events results others packets (back events results packets run) (back events others packets other);
}
  where
    back : (events : List Event) (results : List (Option Bool)) → ArePackets events → Runs g no_connections events results → Runs f no_connections events results
    back events results packets run = runs_alike g f (other_way f g alike) no_connections events results packets run

pub trace_alike : (f g : Filter) → AreEquivalentFilters f g → (events : List Event) (text : List ℕ) → ArePackets events → IsTrace f events text → IsTrace g events text
trace_alike f g alike events text packets trace =
    record { results = trace.results; run = runs_alike f g alike no_connections events trace.results packets trace.run; written = trace.written }
