use Rattle.std.proofs.Common.{List, inl, inr, subst, sym, false}
use Rattle.std.proofs.lemmas.Result.{IfOk-weaker, err_from_is_err_and}
use Rattle.rules_space.specs.Rules.{AnyRules, filter_of}
use Rattle.pkt_core.proofs.ReadEventLaws.{packets_read}
use Rattle.pkt_core.specs.Filter.{ArePackets}
use Rattle.pkt_core.specs.Firewall.{Filter}
use Rattle.pkt_core.specs.declared.event.Event.{Event}
use Rattle.run_core.specs.Dialects.{rule_dialect_of}
use Rattle.run_core.specs.Filters.{AreEquivalentFilters}
use Rattle.run_core.specs.Outcomes.{Answers}
use Rattle.run_core.specs.Reply.{Reply}
use Rattle.topos_top.specs.Trace.{trace_outcomes}
use Rattle.run_core.specs.inner.Views.{reply_in, reply_view, rules_view}
use Rattle.topos_top.specs.FileFormats.{events}
use Rattle.run_core.proofs.CommandPlanLaws.{went_to_outcomes}
use Rattle.run_core.proofs.DialectLaws.{laws_of}
use Rattle.run_core.proofs.EquivalentLaws.{trace_alike}
use Rattle.topos_top.proofs.trace.reply_for.Goals as goal

-- The results of one filter are those of a filter with the same verdicts.
answers_alike : (f g : Filter) → AreEquivalentFilters f g → (es : List Event) → ArePackets es → (given : Reply) → Answers false (trace_outcomes f es) given
    → Answers false (trace_outcomes g es) given
answers_alike f g alike es packets given (on, inl trace) = (on, inl (trace.0, trace.1, trace_alike f g alike es given.text packets trace.2))
answers_alike f g alike es packets given (on, inr none) = absurd none

pub returns-in_err-events : goal.returns-in_err-events
returns-in_err-events g c = λ said parsed.
    let p = err_from_is_err_and c.from_residual.result c.from_residual.ensures.1 in
    rw (p.1, p.2) (inl c.in_err-events.ensures)

pub returns : goal.returns
returns g c = λ said parsed.
    let language = rule_dialect_of c.args.dialect in
    let rules = rules_view c.args.rules.now in
    let read = c.in_ok-events.ensures in
    let es = c.in_ok-events.events.items in
    let packets = packets_read read.0 es read.2 in
    let alike = subst (λ (audited : AnyRules). AreEquivalentFilters (filter_of audited) (language.filter said)) (sym parsed.0) ((laws_of c.args.dialect).audited_alike parsed.1 said parsed.2) in
    went_to_outcomes false events c.args.events.now (trace_outcomes (language.filter said)) _ _ es c.answer.result (reply_in c.of_outcomes.result) read
    (IfOk-weaker c.answer.result _ _ (λ answer is. answers_alike (filter_of rules) (language.filter said) alike es packets (reply_view answer) is)
    (rw c.deref.ensures.value at c.answer.ensures)) c.of_outcomes.ensures
