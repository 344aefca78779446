-- The result of an audit is unique, its three outcomes are mutually exclusive, and rules that were emitted for a
-- network audit as equal to it.
use Rattle.std.proofs.Common.{◌≡◌, ◌↔◌, inl, inr, List, [], ◌∷◌, ◌++◌, ℕ, Bool, true, refl, sym, subst, ◌∙◌, ap, arith}
use Rattle.audit_core.specs.laws.FindingLaws.{trace_packets}
use Rattle.audit_core.proofs.ExpectedLaws.{expected_where_agree, no_difference_where_expected}
use Rattle.audit_core.proofs.FindingOnceLaws.{finding_once}
use Rattle.audit_core.specs.Cuts.{cuts_between}
use Rattle.audit_core.specs.Findings.{DifferSomewhere, IsFirstTrace, events_of, trace_of}
use Rattle.audit_core.specs.inner.Findings.{IsFinding}
use Rattle.audit_core.specs.FindingText.{trace_text}
use Rattle.audit_core.specs.inner.FindingText.{finding_text}
use Rattle.audit_core.specs.Lists.{front_of}
use Rattle.audit_core.specs.Places.{representatives_of}
use Rattle.rules_space.specs.Rules.{AnyRules, filter_of}
use Rattle.rules_space.specs.Verdicts.{GivesOne}
use Rattle.audit_core.specs.Sides.{AreEquivalent, Sides}
use Rattle.audit_core.specs.declared.finding.Finding.{Finding}
use Rattle.audit_core.specs.declared.finding.Finding.TheVariants.{Equal, Differ as Differing}
use Rattle.audit_core.specs.declared.finding.Trace.{Trace}
use Rattle.audit_core.specs.declared.kind.Kind.{Kind}
use Rattle.audit_core.specs.declared.kind.Kind.TheVariants.{Alone, AfterSwap, AfterBoth}
use Rattle.host_net.specs.declared.packet.Packet.{Packet}
use Rattle.net_core.specs.inner.Fitting.{IsNetwork}
use Rattle.net_core.specs.Network.{Network}
use Rattle.net_core.specs.Policies.{IsPolicyOf, Policy}
use Rattle.pkt_core.specs.declared.event.Event.TheVariants.{Seen}
use Rattle.pkt_core.specs.Filter.{ArePackets, ForwardsAsExpected}
use Rattle.pkt_core.specs.Firewall.{Filter}
use Rattle.report_core.specs.FlowPolicies.{flow_policy_of}
use Rattle.topos_top.specs.Audit.{FewClasses, HasManyClasses, ReportsDifference, audit_outcomes}
use Rattle.run_core.specs.Filters.{AreEquivalentFilters}
use Rattle.run_core.specs.OfPolicy.{ForwardsForNetwork, OfSides}
use Rattle.run_core.specs.Dialects.{rule_dialect_of}
use Rattle.run_core.specs.Outcomes.{Answers}
use Rattle.run_core.specs.Reply.{Reply}
use Rattle.topos_top.specs.inner.OutcomesReplies.{finding_reply}
use Rattle.run_core.specs.inner.Views.{reply_on}
use Rattle.topos_top.specs.Rules.{IsRules}
use Rattle.run_core.specs.OfPolicy.{OfPolicy}
use Rattle.run_core.specs.declared.dialect.Dialect.{Dialect}
use Rattle.run_core.specs.declared.status.Status.TheVariants.{Violated, Done}
use Rattle.run_core.specs.declared.status.Stream.TheVariants.{Output}
use Rattle.run_core.proofs.DialectLaws.{laws_of}
use Rattle.run_core.proofs.EquivalentLaws.{forwards_alike, other_way}
use Rattle.run_core.proofs.OfPolicyLaws.{forwards_for, sides_for, sides_moved}
use Rattle.topos_top.proofs.RulesLaws.{rules_keep}

few_not_many : (sides : Sides) (line : List ℕ) → FewClasses sides → HasManyClasses sides line → ⊥
few_not_many sides line few many = omega (arith, few, many.0)

-- ---- the report of a difference

trace_events : (kind : Kind) (p : Packet) (forwards : Bool) → events_of (trace_of kind p forwards) ≡ front_of kind p ++ Seen p ∷ []
trace_events Alone p forwards = refl
trace_events AfterSwap p forwards = refl
trace_events AfterBoth p forwards = refl

reports_difference : (sides : Sides) (t : Trace) → IsFirstTrace sides (representatives_of (cuts_between sides)) t → ReportsDifference sides (trace_text t)
reports_difference sides t first = record {
  trace = t;
  first = first;
  told = refl;
  before = front_of first.kind first.packet;
  last = first.packet;
  events = ap events_of first.is ∙ trace_events first.kind first.packet t.forwards;
  packets = subst (λ (u : Trace). ArePackets (events_of u)) (sym first.is) (trace_packets first.kind first.packet t.forwards first.first.packet);
  differ = first.first.differ;
}

-- A first trace is a list of packets on which they differ.
differ_there : (sides : Sides) (t : Trace) → IsFinding sides (Differing t) → DifferSomewhere sides
differ_there sides t found =
    (events_of t, subst (λ (u : Trace). ArePackets (events_of u)) (sym found.is) (trace_packets found.kind found.packet t.forwards found.first.packet), found.differ)

-- ---- obligations of the outcomes

module _ (d : Network) (rules : AnyRules) where
  pub trace_once : (a b : List ℕ) → OfSides d rules (λ sides. ReportsDifference sides a) → OfSides d rules (λ sides. ReportsDifference sides b) → a ≡ b
  trace_once a b p q =
      let first = sides_moved d rules (λ sides. ReportsDifference sides a) (λ sides. ReportsDifference sides b) p q in
      let second = q.so in
      let same = finding_once (sides_for d rules q.policy) (Differing first.trace) (Differing second.trace) first.first second.first in
      first.told ∙ ap finding_text same ∙ sym second.told

  pub line_once : (a b : List ℕ) → OfSides d rules (λ sides. HasManyClasses sides a) → OfSides d rules (λ sides. HasManyClasses sides b) → a ≡ b
  line_once a b p q = (sides_moved d rules (λ sides. HasManyClasses sides a) (λ sides. HasManyClasses sides b) p q).1 ∙ sym q.so.1

  pub agreement_tells : OfSides d rules (λ sides. FewClasses sides × AreEquivalent sides) → OfSides d rules AreEquivalent
  agreement_tells agree = record { policy = agree.policy; is_policy = agree.is_policy; so = agree.so.1 }

  -- A filter with the same verdicts forwards alike.
  pub agreement_keeps : (filter : Filter) → AreEquivalentFilters (filter_of rules) filter → OfSides d rules (λ sides. FewClasses sides × AreEquivalent sides) → ForwardsForNetwork d filter
  agreement_keeps filter alike agree = forwards_for d rules filter alike (agreement_tells agree)

  pub many_or_few : (Holds : Sides → Type 0) (line : List ℕ) → OfSides d rules (λ sides. HasManyClasses sides line) → OfSides d rules (λ sides. FewClasses sides × Holds sides) → ⊥
  many_or_few Holds line many few =
      few_not_many (sides_for d rules many.policy) line (sides_moved d rules (λ sides. FewClasses sides × Holds sides) (λ sides. HasManyClasses sides line) few many).0 many.so

  pub differ_or_agree : OfSides d rules (λ sides. FewClasses sides × DifferSomewhere sides) → OfSides d rules (λ sides. FewClasses sides × AreEquivalent sides) → ⊥
  differ_or_agree differ agree =
      no_difference_where_expected (sides_for d rules agree.policy) agree.so.1
      (sides_moved d rules (λ sides. FewClasses sides × DifferSomewhere sides) (λ sides. FewClasses sides × AreEquivalent sides) differ agree).1

-- ---- both directions

-- If the number of classes is within the limit, `equal` is written if and only if they forward alike.
pub equal_exactly : (d : Network) (filter : Filter) (rules : AnyRules) (reply : Reply) → Answers true (audit_outcomes d filter rules) reply → OfSides d rules FewClasses
    → (reply.status ≡ Done) ↔ OfSides d rules AreEquivalent
equal_exactly d filter rules reply answers few = (alike_where_done, done_where_alike)
  where
    alike_where_done : reply.status ≡ Done → OfSides d rules AreEquivalent
    alike_where_done done = elim answers.1 [
      | inl many ↦ let other = many.0 in cc (done, other)
      | inr rest ↦ elim rest [
        | inl differ ↦ let other = differ.0 in cc (done, other)
        | inr last ↦ elim last [ inl equal ↦ agreement_tells d rules equal.1 | inr none ↦ absurd none ]
      ]
    ]

    done_where_alike : OfSides d rules AreEquivalent → reply.status ≡ Done
    done_where_alike alike = elim answers.1 [
      | inl many ↦
          let there = many.1.2 in
          absurd (few_not_many (sides_for d rules there.policy) many.1.1 (sides_moved d rules FewClasses (λ sides. HasManyClasses sides many.1.1) few there) there.so)
      | inr rest ↦ elim rest [
        | inl differ ↦
            let both = sides_moved d rules AreEquivalent (λ sides. FewClasses sides × DifferSomewhere sides) alike differ.1 in
            absurd (no_difference_where_expected (sides_for d rules differ.1.policy) both differ.1.so.1)
        | inr last ↦ elim last [ inl equal ↦ equal.0 | inr none ↦ absurd none ]
      ]
    ]

-- The rules that are parsed from a text of `rules` or `repair` forward alike.
pub written_alike : (dialect : Dialect) (d : Network) (text : List ℕ) (said : (rule_dialect_of dialect).Rules) → IsNetwork d
    → OfPolicy d (rule_dialect_of dialect).CanWrite → IsRules (rule_dialect_of dialect) d text → (rule_dialect_of dialect).IsReading text said
    → OfSides d ((rule_dialect_of dialect).audited said) AreEquivalent
unfolding rules_keep
written_alike dialect d text said network can is reading =
    let keep = rules_keep (rule_dialect_of dialect) (laws_of dialect) d text network can is in
    let language = rule_dialect_of dialect in
    let alike = other_way (filter_of (language.audited said)) (language.filter said) ((laws_of dialect).audited_alike text said reading) in
    record {
      policy = keep.policy;
      is_policy = keep.invariants.is_policy;
      so = forwards_alike (language.filter said) (filter_of (language.audited said)) alike (flow_policy_of d keep.policy)
          (subst (λ (rules : language.Rules). ForwardsAsExpected (language.filter rules) (flow_policy_of d keep.policy)) (sym (keep.only_reading said reading)) keep.expected);
    }

-- ---- the result of the code

module _ (d : Network) (rules : AnyRules) (policy : Policy) (is_policy : IsPolicyOf d policy) where
  ends_different : (reply : Reply) (t : Trace) → FewClasses (sides_for d rules policy) → IsFinding (sides_for d rules policy) (Differing t)
      → reply ≡ reply_on Violated Output (finding_text (Differing t)) → Answers true (audit_outcomes d (filter_of rules) rules) reply
  ends_different reply t few found is =
      subst (λ (r : Reply). Answers true (audit_outcomes d (filter_of rules) rules) r) (sym is) (
        refl,
        inr (inl (
          refl,
          record { policy = policy; is_policy = is_policy; so = (few, differ_there (sides_for d rules policy) t found) },
          record { policy = policy; is_policy = is_policy; so = reports_difference (sides_for d rules policy) t found },
        )),
      )

  ends_equal : (reply : Reply) → GivesOne (filter_of rules) → FewClasses (sides_for d rules policy) → IsFinding (sides_for d rules policy) Equal
      → reply ≡ reply_on Done Output (finding_text Equal) → Answers true (audit_outcomes d (filter_of rules) rules) reply
  ends_equal reply gives few found is =
      subst (λ (r : Reply). Answers true (audit_outcomes d (filter_of rules) rules) r) (sym is) (
        refl,
        inr (inr (inl (
          refl,
          record { policy = policy; is_policy = is_policy; so = (few, expected_where_agree (sides_for d rules policy) gives found) },
          refl,
        ))),
      )

  pub ends_found : (reply : Reply) (finding : Finding) → GivesOne (filter_of rules) → FewClasses (sides_for d rules policy) → IsFinding (sides_for d rules policy) finding
      → reply ≡ finding_reply finding → Answers true (audit_outcomes d (filter_of rules) rules) reply
  ends_found reply Equal gives few found is = ends_equal reply gives few found is
  ends_found reply (Differing t) gives few found is = ends_different reply t few found is
