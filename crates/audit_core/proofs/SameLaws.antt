-- No packet differs at the end of a list iff the two sides differ on no list of events.
use Rattle.std.proofs.Common.{◌≡◌, ◌↔◌, Bool, true, List, [], ◌∷◌, refl, arith}
use Rattle.host_net.specs.declared.packet.Packet.{Packet}
use Rattle.host_net.specs.Packet.{IsPacket}
use Rattle.flow_set.specs.FlowSet.{IsSubset}
use Rattle.pkt_core.specs.Filter.{ArePackets}
use Rattle.pkt_core.specs.FlowPolicy.{permits, permits_reply_to}
use Rattle.audit_core.specs.declared.difference.Difference.{Difference}
use Rattle.audit_core.specs.declared.kind.Kind.{Kind}
use Rattle.audit_core.specs.declared.kind.Kind.TheVariants.{Alone, AfterSwap, AfterBoth}
use Rattle.audit_core.specs.Findings.{DifferSomewhere}
use Rattle.audit_core.specs.inner.Pairs.{AreSame, IsDifferent}
use Rattle.rules_space.specs.Verdicts.{GivesOne}
use Rattle.audit_core.specs.inner.Sides.{AgreeAlways}
use Rattle.audit_core.specs.inner.Faults.{AreRight}
use Rattle.audit_core.specs.laws.FindingLaws.{trace_packets}
use Rattle.audit_core.specs.laws.ListLaws.{agree_not_differ, differ_on}
use Rattle.audit_core.specs.Lists.{front_of, list_of}
use Rattle.header_space.specs.Owners.{owners_of}
use Rattle.audit_core.specs.Pairs.{AreDifferences, Case, DiffersAt, IsDifference, all_cases}
use Rattle.rules_space.specs.Rules.{filter_of}
use Rattle.audit_core.specs.Sides.{Differ, AreEquivalent, Sides}
use Rattle.audit_core.proofs.ExpectedLaws.{expected_where_agree}
use Rattle.audit_core.proofs.JudgingLemmas.{agree_where_right, right_from}
use Rattle.audit_core.proofs.PairLaws.{complete_where, first_is, listed_same}

module _ (sides : Sides) (gives : GivesOne (filter_of sides.rules)) (subset : IsSubset sides.policy.stateful sides.policy.permitted) where
  -- A difference at a packet is a difference on a list of packets.
  differ_there : (kind : Kind) (p : Packet) (forwards : Bool) → DiffersAt sides kind p forwards → Differ sides (list_of kind p)
  differ_there kind p forwards differs = differ_on (filter_of sides.rules) (permits sides.policy) (permits_reply_to sides.policy) (front_of kind p) p forwards differs

  list_packets : (kind : Kind) (p : Packet) → IsPacket p → ArePackets (list_of kind p)
  list_packets Alone p is = trace_packets Alone p true is
  list_packets AfterSwap p is = trace_packets AfterSwap p true is
  list_packets AfterBoth p is = trace_packets AfterBoth p true is

  pub somewhere : (p : Packet) → IsPacket p → IsDifferent sides p → DifferSomewhere sides
  somewhere p is differs = (list_of differs.0 p, list_packets differs.0 p is, differ_there differs.0 p differs.1 differs.2)

  nowhere : AgreeAlways sides → DifferSomewhere sides → ⊥
  nowhere agree differ = agree_not_differ (filter_of sides.rules) (permits sides.policy) (permits_reply_to sides.policy) differ.0 (agree differ.0 differ.1) differ.2

  same_where_right : ((kind : Kind) → AreRight sides kind) → AreSame sides
  same_where_right right p is differs = nowhere (agree_where_right sides gives subset right) (somewhere p is differs)

  pub none_where_right : ((kind : Kind) → AreRight sides kind) → AreDifferences sides []
  none_where_right right =
      listed_same sides (same_where_right right) (all_cases (owners_of sides.policy.site.hosts) (owners_of sides.policy.site.hosts))

  -- If no packet differs, the rules are right.
  are_right : AreSame sides → (kind : Kind) → AreRight sides kind
  are_right same kind = right_from sides gives subset kind (λ h. right_from sides gives subset Alone (λ none. absurd (omega arith)) (none Alone)) (none kind)
    where
      none : (kind : Kind) (p : Packet) → IsPacket p → (b : Bool) → DiffersAt sides kind p b → ⊥
      none kind p is b differs = same p is (kind, b, differs)

  -- A list of differences is empty iff the two sides differ on no list of events.

  pub none_exactly : (ds : List Difference) → AreDifferences sides ds → (ds ≡ []) ↔ (DifferSomewhere sides → ⊥)
  none_exactly [] listed = (
    (λ is. nowhere (agree_where_right sides gives subset (are_right missing))),
    (λ none. refl),
  )
    where
      missing : AreSame sides
      missing p is differs =
          let has = complete_where sides [] listed differs.0 p differs.1 is differs.2 in
          let within = has.1.1 in
          omega (arith, within)
  none_exactly (d ∷ ds) listed = (
    (λ is. absurd (some is)),
    (λ none. absurd (none (there (first_is sides (all_cases (owners_of sides.policy.site.hosts) (owners_of sides.policy.site.hosts)) d ds listed)))),
  )
    where
      some : d ∷ ds ≡ [] → ⊥
      some is = cc

      there : (c : Case) × IsDifference sides c d → DifferSomewhere sides
      there first = somewhere first.1.packet first.1.of_pair.packet (first.0.kind, first.0.forwards, first.1.differs)

  -- Rules that differ from the policy on no list of events are equivalent to it.
  pub alike_where_none : (DifferSomewhere sides → ⊥) → AreEquivalent sides
  alike_where_none none = expected_where_agree sides gives (agree_where_right sides gives subset (are_right (λ p is differs. none (somewhere p is differs))))
