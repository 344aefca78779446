use Rattle.std.proofs.Common.{inl, refl, subst, sym, false}
use Rattle.rules_space.specs.Rules.{filter_of}
use Rattle.run_core.specs.Outcomes.{Answers}
use Rattle.run_core.specs.Reply.{Reply}
use Rattle.topos_top.specs.Trace.{trace_outcomes}
use Rattle.run_core.specs.inner.Views.{rules_view}
use Rattle.topos_top.proofs.trace.answer.Goals as goal

pub returns : goal.returns
returns c =
    subst (λ (r : Reply). Answers false (trace_outcomes (filter_of (rules_view c.args.rules.now)) c.args.events.now) r) (sym c.done.ensures)
    (refl, inl (refl, tt, c.in_ok-text.ensures))
