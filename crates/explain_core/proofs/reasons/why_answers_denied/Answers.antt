use Rattle.std.proofs.Common.{subst}
use Rattle.std.specs.Prelude.{IfOk}
use Rattle.flow_set.specs.Flow.{reverse_of}
use Rattle.flow_set.specs.FlowSet.{with_flow}
use Rattle.state_core.specs.Stateful.{is_strict}
use Rattle.explain_core.specs.Reasons.{AreReasons}
use Rattle.explain_core.proofs.reasons.why_answers_denied.Goals as goal

pub returns : goal.returns
returns g c =
    subst (λ fs. IfOk c.reasons_of.result (λ reasons. AreReasons (λ inv. is_strict (g.I.Invariant.strategy_of inv) (g.I.Invariant.edge_mark inv)) g.I.Invariant.holds_on c.args.invs.now (with_flow fs (reverse_of c.args.f)) reasons.items))
    c.in_ok-all.ensures.flows (rw c.back.ensures at c.reasons_of.ensures)
