use Rattle.std.proofs.Common.{[], ◌∷◌, sym, ◌∙◌, ap, subst}
use Rattle.std.specs.Prelude.{IsTrue}
use Rattle.std.proofs.lemmas.Bool.{both_ways}
use Rattle.flow_set.specs.FlowSet.{SetOfFlows}
use Rattle.net_core.specs.Policies.{holds_on}
use Rattle.net_core.specs.inner.Asking.{flows_where}
use Rattle.net_core.specs.inner.FailingFlows.{FailsOn}
use Rattle.net_core.proofs.FailingLaws.{fails_where, holds_more}
use Rattle.net_core.proofs.failing.change_where_failing.Goals.{else-asked-via-then-asked+else-admits, else-asked-via-else-asked}
use Rattle.net_core.proofs.failing.change_where_failing.Goals as goal

pub returns-then-admits : goal.returns-then-admits
returns-then-admits c =
    let all = c.args._description.now.asked.flows in
    record {
      size = c.requires.failing.size;
      flows =
          subst (λ b. FailsOn c.args.invariant.now (flows_where b all c.args.flow) c.args.failing.now.flows) (sym c.if-asked.true)
          (holds_more c.args.invariant.now all c.args.failing.now.flows c.args.flow (c.requires.fresh c.if-asked.true) (c.admits.ensures.0 c.if-admits.true) c.requires.failing.flows);
    }

pub returns : goal.returns
returns c =
    let all = c.args._description.now.asked.flows in
    let fails : IsTrue c.args.asked → holds_on c.args.invariant.now (c.args.flow ∷ []) → ⊥ = elim c.else-asked.branch [
      | else-asked-via-then-asked+else-admits w ↦ λ asked holds. both_ways _ w.if-admits.false (w.admits.ensures.1 holds)
      | else-asked-via-else-asked w ↦ λ asked holds. both_ways _ w.if-asked.false asked
    ] in
    record {
      size = ap (λ (s : SetOfFlows). s.size) c.set_flow.ensures ∙ c.requires.failing.size;
      flows =
          subst (λ (s : SetOfFlows). FailsOn c.args.invariant.now (flows_where c.args.asked all c.args.flow) s.flows) (sym c.set_flow.ensures)
          (fails_where c.args.asked c.args.invariant.now all c.args.failing.now.flows c.args.flow fails c.requires.failing.flows);
    }
