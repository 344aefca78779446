-- The obligations of each command's outcomes after its files were read.
use Rattle.std.proofs.Common.{◌≡◌, inl, inr, ℕ, List, true, refl, sym, ◌∙◌}
use Rattle.audit_core.specs.Findings.{DifferSomewhere}
use Rattle.rules_space.specs.Rules.{AnyRules, filter_of}
use Rattle.audit_core.specs.Sides.{AreEquivalent}
use Rattle.host_net.specs.Packet.{IsPacket}
use Rattle.desc_core.proofs.NetworkLaws.{IsNetwork-described}
use Rattle.pkt_core.proofs.ReadEventLaws.{packets_read}
use Rattle.run_core.specs.FileFormats.{description}
use Rattle.run_core.specs.Outcomes.{Outcomes}
use Rattle.net_core.specs.inner.Fitting.{IsNetwork}
use Rattle.net_core.specs.Network.{Network}
use Rattle.pkt_core.specs.Filter.{ArePackets}
use Rattle.pkt_core.specs.Firewall.{Filter}
use Rattle.pkt_core.specs.declared.event.Event.{Event}
use Rattle.report_core.proofs.ReportLaws.{check_report_is_one, policy_report_is_one}
use Rattle.report_core.proofs.ReportPromisesLaws.{reports_violations, reports_policy}
use Rattle.sample_core.proofs.SampleLaws.{sample_is_one}
use Rattle.sample_core.proofs.SamplePromisesLaws.{reports_sample}
use Rattle.report_core.proofs.TraceLaws.{AnswersOnce, trace_is_one, reports_run}
use Rattle.topos_top.specs.Command.{Command, Check, Policy, Rules, Repair, Trace, Sample, Migrate, Audit, Edit, Local, LocalTable}
use Rattle.topos_top.specs.Audit.{audit_outcomes}
use Rattle.topos_top.specs.Check.{check_outcomes, offences_when}
use Rattle.topos_top.specs.Commands.{plan_of}
use Rattle.run_core.specs.CommandPlan.{reads, ends}
use Rattle.run_core.specs.Filters.{AreEquivalentFilters}
use Rattle.run_core.specs.Dialects.{rule_dialect_of}
use Rattle.topos_top.specs.Edit.{edit_outcomes}
use Rattle.topos_top.specs.Local.{local_chains, local_outcomes, local_table, machines_when}
use Rattle.topos_top.specs.inner.Local.{local_dialect_of}
use Rattle.topos_top.specs.declared.local.LocalDialect.{LocalDialect as CodeDialect}
use Rattle.topos_top.specs.declared.local.LocalDialect.TheVariants.{Chains, Table}
use Rattle.topos_top.specs.Policy.{policy_outcomes}
use Rattle.topos_top.specs.Repair.{repair_outcomes}
use Rattle.topos_top.specs.Rules.{ListedHolds, rules_outcomes, rules_when}
use Rattle.topos_top.specs.Trace.{trace_outcomes}
use Rattle.run_core.specs.declared.dialect.Dialect.{Dialect}
use Rattle.run_core.specs.declared.status.Status.{Status}
use Rattle.run_core.specs.declared.status.Status.TheVariants.{BadText, Done}
use Rattle.topos_top.specs.FileFormats.{rules}
use Rattle.topos_top.specs.Promises.{LeavesOpen}
use Rattle.topos_top.proofs.AuditLaws.{agreement_keeps, differ_or_agree, line_once, many_or_few, trace_once}
use Rattle.run_core.proofs.DialectLaws.{exact_or_not, laws_of}
use Rattle.topos_top.proofs.EditLaws.{line_is_one, never_both as refused_or_accepted, reports_edits, text_is_one}
use Rattle.run_core.proofs.OutcomesLaws.{is_end, AreApart, AreKept, EachOutcome, IsOneOr, IsOwed, one_each, IsSettled, settled_kept, settled_writes}
use Rattle.run_core.proofs.CommandPlanLaws.{HoldsAtEnds, HoldsAtFormats, RefusesOnceOr, holds_at_ends}
use Rattle.run_core.proofs.FormatLaws.{description_laws, same_refusal}
use Rattle.topos_top.proofs.FormatLaws.{document_laws, edited_laws, edits_laws, edits_once, events_laws, events_once, rules_laws}
use Rattle.topos_top.proofs.LocalDialectLaws.{local_laws_of}
use Rattle.topos_top.proofs.LocalLaws.{bar_is_one, chains_are_one, local_keeps, specific_or_barred}
use Rattle.topos_top.proofs.RulesLaws.{rules_are_one, never_both, hindrance_is_one, rules_keep}
use Rattle.edit_core.specs.Edit.{Edit as Change}
use Rattle.toml.specs.Data.{Members}

owed_offences : (ended : Status) → is_end ended ≡ true → (when : Type 0) (d : Network) → IsNetwork d → IsOwed (offences_when ended when d)
owed_offences ended status when d sound = record { status = status; one = check_report_is_one d; guarantees = λ now text is. reports_violations d text sound is }

kept_rules : (holds : Type 0) (dialect : Dialect) (d : Network) → IsNetwork d → AreKept (rules_when holds (rule_dialect_of dialect) d)
kept_rules holds dialect d sound = record {
  each = (
    record { status = refl; guarantees = λ now text is. is },
    (record { status = refl; guarantees = λ now text is. rules_keep (rule_dialect_of dialect) (laws_of dialect) d text sound now.1 is }, tt),
  );
  apart = ((λ hindered written. never_both (rule_dialect_of dialect) (laws_of dialect) d hindered.1 hindered.2 written.1, tt), (tt, tt));
}

-- The text of the rules is unique in an exact dialect.
one_rules : (Open : Status → Type 0) (holds : Type 0) (dialect : Dialect) (d : Network) → (((rule_dialect_of dialect).IsExact → ⊥) → Open Done)
    → EachOutcome (IsOneOr Open) (rules_when holds (rule_dialect_of dialect) d)
one_rules Open holds dialect d opens = (
  inl (hindrance_is_one (rule_dialect_of dialect) (laws_of dialect) d),
  (elim (exact_or_not dialect) [ inl exact ↦ inl (rules_are_one (rule_dialect_of dialect) (laws_of dialect) d exact) | inr other ↦ inr (opens other) ], tt),
)

kept_machines : (holds : Type 0) (dialect : CodeDialect) (d : Network) (host : List ℕ) → IsNetwork d → AreKept (machines_when holds (local_dialect_of dialect) d host)
kept_machines holds dialect d host sound = record {
  each = (
    record { status = refl; guarantees = λ now text is. is },
    (record { status = refl; guarantees = λ now text is. local_keeps d host (local_dialect_of dialect) (local_laws_of dialect) text sound is }, tt),
  );
  apart = ((λ barred written. specific_or_barred d host barred.1 barred.2 written.1, tt), (tt, tt));
}

settled_trace : (filter : Filter) (events : List Event) → AnswersOnce IsPacket filter → ArePackets events → IsSettled (trace_outcomes filter events)
settled_trace filter events once packets =
    settled_writes _ _ (trace_is_one _ filter once events packets) (reports_run _ filter once events packets)

settled_audit : (d : Network) (filter : Filter) (rules : AnyRules) → AreEquivalentFilters (filter_of rules) filter → IsSettled (audit_outcomes d filter rules)
settled_audit d filter rules alike = record {
  owed = (
    record { status = refl; one = line_once d rules; guarantees = λ now line is. is },
    (
      record { status = refl; one = trace_once d rules; guarantees = λ now text is. (is, alike) },
      (record { status = refl; one = λ a b p q. p ∙ sym q; guarantees = λ now text is. agreement_keeps d rules filter alike now }, tt),
    ),
  );
  apart = (
    (λ many differ. many_or_few d rules DifferSomewhere many.1 many.2 differ, (λ many agree. many_or_few d rules AreEquivalent many.1 many.2 agree, tt)),
    ((λ differ agree. differ_or_agree d rules differ agree, tt), (tt, tt)),
  );
}

settled_edits : (table : Members) (edits : List Change) → IsSettled (edit_outcomes table edits)
settled_edits table edits = record {
  owed = (
    record { status = refl; one = line_is_one table edits; guarantees = λ now line is. is },
    (record { status = refl; one = text_is_one table edits; guarantees = λ now text is. reports_edits table edits text is }, tt),
  );
  apart = ((λ refused accepted. refused_or_accepted table edits refused.1 refused.2 accepted, tt), (tt, tt));
}

settled_check : (d : Network) → IsNetwork d → IsSettled (check_outcomes d)
settled_check d sound = record {
  owed = (owed_offences _ refl _ d sound, (owed_offences _ refl _ d sound, tt));
  apart = ((λ fails holds. fails holds, tt), (tt, tt));
}

-- A listed policy that violates an invariant has no rules.
apart_listed : (dialect : Dialect) (d : Network) → IsNetwork d → AreApart (rules_outcomes dialect d)
apart_listed dialect d sound = (
  (λ fails hindered. fails hindered.0, (λ fails holds. fails holds.0, tt)),
  (kept_rules (ListedHolds d) dialect d sound).apart,
)

kept_listed_rules : (dialect : Dialect) (d : Network) → IsNetwork d → AreKept (rules_outcomes dialect d)
kept_listed_rules dialect d sound = record {
  each = (
    record { status = refl; guarantees = λ now text is. reports_violations d text sound is },
    (kept_rules (ListedHolds d) dialect d sound).each,
  );
  apart = apart_listed dialect d sound;
}

kept_local : (dialect : CodeDialect) (d : Network) (host : List ℕ) → IsNetwork d → AreKept (local_outcomes (local_dialect_of dialect) d host)
kept_local dialect d host sound = record {
  each = (
    record { status = refl; guarantees = λ now text is. reports_violations d text sound is },
    (kept_machines (ListedHolds d) dialect d host sound).each,
  );
  apart = (
    (λ fails barred. fails barred.0, (λ fails holds. fails holds.0, tt)),
    (kept_machines (ListedHolds d) dialect d host sound).apart,
  );
}

-- A plan that begins with a description.
of_network : (Holds : Outcomes → Type 0) (file : List ℕ) (outcomes : Network → Outcomes) → ((d : Network) → IsNetwork d → Holds (outcomes d))
    → HoldsAtEnds Holds (reads description file (λ d. ends (outcomes d)))
of_network Holds file outcomes holds = (description_laws, λ bytes d read. holds d (IsNetwork-described bytes d read))

-- The outcomes of the command have one text each in all dialects, by one lemma.
abbrev pub HasOneAnswer : Command → Type 0
HasOneAnswer (Rules dialect file) = ⊥
HasOneAnswer (Repair dialect file) = ⊥
HasOneAnswer (Local file host) = ⊥
HasOneAnswer (LocalTable file host) = ⊥
HasOneAnswer _ = Unit {0}

pub settled : (command : Command) → HasOneAnswer command → HoldsAtEnds IsSettled (plan_of command)
settled (Check file) one = of_network IsSettled file check_outcomes settled_check
settled (Policy file) one =
    of_network IsSettled file policy_outcomes (λ d sound. settled_writes _ _ (policy_report_is_one d) (λ text is. reports_policy d text sound is))
settled (Rules dialect file) none = absurd none
settled (Repair dialect file) none = absurd none
settled (Trace dialect rules events) one = (
  rules_laws dialect,
  λ bytes said read. (
    events_laws,
    λ other es also. settled_trace ((rule_dialect_of dialect).filter said) es ((laws_of dialect).answers_once bytes said read) (packets_read other es also),
  ),
)
settled (Sample hosts) one = settled_writes _ _ (sample_is_one hosts) (reports_sample hosts)
settled (Migrate file) one = (document_laws, λ bytes text read. settled_writes _ _ (λ a b p q. p ∙ sym q) (λ text is. is))
settled (Audit dialect file rules) one = (
  description_laws,
  λ bytes d read. (
    rules_laws dialect,
    λ other said also. settled_audit d ((rule_dialect_of dialect).filter said) ((rule_dialect_of dialect).audited said) ((laws_of dialect).audited_alike other said also),
  ),
)
settled (Edit file edits) one = (edited_laws, λ bytes table read. (edits_laws, λ other es also. settled_edits table es))
settled (Local file host) none = absurd none
settled (LocalTable file host) none = absurd none

kept_if_one : (command : Command) → HasOneAnswer command → HoldsAtEnds AreKept (plan_of command)
kept_if_one command one = holds_at_ends IsSettled AreKept settled_kept (plan_of command) (settled command one)

pub kept : (command : Command) → HoldsAtEnds AreKept (plan_of command)
kept (Check file) = kept_if_one (Check file) tt
kept (Policy file) = kept_if_one (Policy file) tt
kept (Rules dialect file) = of_network AreKept file (rules_outcomes dialect) (λ d sound. kept_listed_rules dialect d sound)
kept (Repair dialect file) = of_network AreKept file (repair_outcomes dialect) (λ d sound. kept_rules (Unit {0}) dialect d sound)
kept (Trace dialect rules events) = kept_if_one (Trace dialect rules events) tt
kept (Sample hosts) = kept_if_one (Sample hosts) tt
kept (Migrate file) = kept_if_one (Migrate file) tt
kept (Audit dialect file rules) = kept_if_one (Audit dialect file rules) tt
kept (Edit file edits) = kept_if_one (Edit file edits) tt
kept (Local file host) = of_network AreKept file (λ d. local_outcomes local_chains d host) (λ d sound. kept_local Chains d host sound)
kept (LocalTable file host) = of_network AreKept file (λ d. local_outcomes local_table d host) (λ d sound. kept_local Table d host sound)

-- ---- the reply is unique but for texts that are left open

one_if_settled : (command : Command) → HasOneAnswer command → HoldsAtEnds (EachOutcome (IsOneOr (LeavesOpen command))) (plan_of command)
one_if_settled command one =
    holds_at_ends IsSettled (EachOutcome (IsOneOr (LeavesOpen command))) (λ (outcomes : Outcomes) settled. one_each (LeavesOpen command) outcomes settled.owed)
    (plan_of command) (settled command one)

pub one_text : (command : Command) → HoldsAtEnds (EachOutcome (IsOneOr (LeavesOpen command))) (plan_of command)
one_text (Check file) = one_if_settled (Check file) tt
one_text (Policy file) = one_if_settled (Policy file) tt
one_text (Rules dialect file) =
    of_network (EachOutcome (IsOneOr (LeavesOpen (Rules dialect file)))) file (rules_outcomes dialect)
    (λ d sound. (inl (check_report_is_one d), one_rules (LeavesOpen (Rules dialect file)) (ListedHolds d) dialect d (λ other. other)))
one_text (Repair dialect file) =
    of_network (EachOutcome (IsOneOr (LeavesOpen (Repair dialect file)))) file (repair_outcomes dialect)
    (λ d sound. one_rules (LeavesOpen (Repair dialect file)) (Unit {0}) dialect d (λ other. other))
one_text (Trace dialect rules events) = one_if_settled (Trace dialect rules events) tt
one_text (Sample hosts) = one_if_settled (Sample hosts) tt
one_text (Migrate file) = one_if_settled (Migrate file) tt
one_text (Audit dialect file rules) = one_if_settled (Audit dialect file rules) tt
one_text (Edit file edits) = one_if_settled (Edit file edits) tt
one_text (Local file host) =
    of_network (EachOutcome (IsOneOr (LeavesOpen (Local file host)))) file (λ d. local_outcomes local_chains d host)
    (λ d sound. (inl (check_report_is_one d), (inl (bar_is_one d host), (inl (chains_are_one d host), tt))))
one_text (LocalTable file host) =
    of_network (EachOutcome (IsOneOr (LeavesOpen (LocalTable file host)))) file (λ d. local_outcomes local_table d host)
    (λ d sound. (inl (check_report_is_one d), (inl (bar_is_one d host), (inr tt, tt))))

-- One line rejects the rules in an exact dialect.
rules_once : (Open : Status → Type 0) (dialect : Dialect) → (((rule_dialect_of dialect).IsExact → ⊥) → Open BadText) → RefusesOnceOr Open (rules dialect)
rules_once Open dialect opens = elim (exact_or_not dialect) [ inl exact ↦ inl ((laws_of dialect).refuses_once exact) | inr other ↦ inr (opens other) ]

pub rejects_once : (command : Command) → HoldsAtFormats (RefusesOnceOr (LeavesOpen command)) (plan_of command)
rejects_once (Check file) = (inl same_refusal, λ bytes d read. tt)
rejects_once (Policy file) = (inl same_refusal, λ bytes d read. tt)
rejects_once (Rules dialect file) = (inl same_refusal, λ bytes d read. tt)
rejects_once (Repair dialect file) = (inl same_refusal, λ bytes d read. tt)
rejects_once (Trace dialect rules events) =
    (rules_once (LeavesOpen (Trace dialect rules events)) dialect (λ other. other), λ bytes said read. (inl events_once, λ other es also. tt))
rejects_once (Sample hosts) = tt
rejects_once (Migrate file) = (inl same_refusal, λ bytes text read. tt)
rejects_once (Audit dialect file rules) =
    (inl same_refusal, λ bytes d read. (rules_once (LeavesOpen (Audit dialect file rules)) dialect (λ other. other), λ other said also. tt))
rejects_once (Edit file edits) = (inl same_refusal, λ bytes table read. (inl edits_once, λ other es also. tt))
rejects_once (Local file host) = (inl same_refusal, λ bytes d read. tt)
rejects_once (LocalTable file host) = (inl same_refusal, λ bytes d read. tt)
