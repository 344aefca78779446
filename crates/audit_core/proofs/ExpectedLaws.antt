-- Rules agree with a policy on every list of events iff they forward as the policy expects. So rules that are written to forward what a
-- policy expects are found equal to it.
use Rattle.std.proofs.Common.{◌≡◌, Bool, List, [], ◌∷◌, Option, Some, None, suc, refl}
use Rattle.pkt_core.specs.declared.event.Event.{Event}
use Rattle.pkt_core.specs.declared.event.Event.TheVariants.{Seen, Forget}
use Rattle.pkt_core.proofs.ExpectedLaws.{expected_once}
use Rattle.pkt_core.specs.Filter.{ArePackets}
use Rattle.pkt_core.specs.Firewall.{Filter}
use Rattle.pkt_core.specs.Tracking.{ConnectionTable, Runs, after_forget, after_seen, no_connections, state_of}
use Rattle.pkt_core.specs.FlowPolicy.{permits, permits_reply_to}
use Rattle.audit_core.specs.declared.finding.Finding.{Finding}
use Rattle.audit_core.specs.declared.finding.Finding.TheVariants.{Equal}
use Rattle.audit_core.specs.laws.FindingLaws.{equal_exactly}
use Rattle.audit_core.specs.Findings.{DifferSomewhere}
use Rattle.audit_core.specs.inner.Findings.{IsFinding}
use Rattle.audit_core.specs.laws.ListLaws.{agree_not_differ}
use Rattle.rules_space.specs.Rules.{filter_of}
use Rattle.rules_space.specs.Verdicts.{GivesOne}
use Rattle.audit_core.specs.Sides.{AreEquivalent, Sides}
use Rattle.audit_core.specs.inner.Sides.{AgreeAlways}

-- From each connection table, a filter that has a verdict on every packet has a run over packets.
some_run : (filter : Filter) → GivesOne filter → (kept : ConnectionTable) (events : List Event) → ArePackets events
    → (answers : List (Option Bool)) × Runs filter kept events answers
some_run filter gives kept [] packets = ([], tt)
some_run filter gives kept (Seen p ∷ events) packets =
    let first = gives (state_of kept p) p (packets 0 p refl) in
    let rest = some_run filter gives (after_seen kept p first.0) events (λ k q there. packets (suc k) q there) in
    (Some first.0 ∷ rest.0, (first.1, rest.1))
some_run filter gives kept (Forget p ∷ events) packets =
    let rest = some_run filter gives (after_forget kept p) events (λ k q there. packets (suc k) q there) in
    (None ∷ rest.0, rest.1)

-- Rules that forward as expected agree with the policy on every list of events.
pub agree_where_expected : (sides : Sides) → AreEquivalent sides → AgreeAlways sides
agree_where_expected sides are events packets answers run = are.expected events answers packets run

-- Rules that agree with the policy on every list of events forward as expected, because they have one run over each list.
pub expected_where_agree : (sides : Sides) → GivesOne (filter_of sides.rules) → AgreeAlways sides → AreEquivalent sides
expected_where_agree sides gives agree = record {
  expected = λ events answers packets run. agree events packets answers run;
  some = λ events packets. some_run (filter_of sides.rules) gives no_connections events packets;
  one = λ events answers others packets run other.
      expected_once (permits sides.policy) (permits_reply_to sides.policy) events answers others (agree events packets answers run) (agree events packets others other);
}

-- Rules that forward as expected differ from the policy on no list of events.
pub no_difference_where_expected : (sides : Sides) → AreEquivalent sides → DifferSomewhere sides → ⊥
no_difference_where_expected sides are differ =
    agree_not_differ (filter_of sides.rules) (permits sides.policy) (permits_reply_to sides.policy) differ.0 (agree_where_expected sides are differ.0 differ.1) differ.2

-- Any finding of an audit on these rules is `Equal`.
pub equal_where_expected : (sides : Sides) (finding : Finding) → AreEquivalent sides → IsFinding sides finding → finding ≡ Equal
equal_where_expected sides finding are found = (equal_exactly sides finding found).1 (no_difference_where_expected sides are)
