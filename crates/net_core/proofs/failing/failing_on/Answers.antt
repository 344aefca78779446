use Rattle.std.proofs.Common.{List, sym, subst}
use Rattle.flow_set.specs.inner.Downward.{IsEdgeWise}
use Rattle.flow_set.specs.declared.flow.Flow.{Flow}
use Rattle.inv_any.specs.laws.TemplateLaws.{lawful}
use Rattle.net_core.specs.Policies.{holds_on}
use Rattle.net_core.specs.inner.FailingFlows.{FailsOn}
use Rattle.net_core.proofs.FailingLaws.{fails_outside}
use Rattle.net_core.proofs.failing.failing_on.Goals as goal

pub returns-in-Some : goal.returns-in-Some
returns-in-Some c =
    let inv = c.args.invariant.now in
    let edge_wise : IsEdgeWise c.args.asked.now.size (holds_on inv) = subst (λ n. IsEdgeWise n (holds_on inv)) (sym c.requires.size) ((lawful inv).mark_is_right c.requires.alone) in
    let found = rw c.in-Some.is at c.in_ok-failing.ensures.rest in
    record {
      size = rw c.in-Some.is at c.in_ok-failing.ensures.size;
      flows = subst (λ (fs : List Flow). FailsOn inv c.args.asked.now.flows fs) (sym found.2)
          (fails_outside c.args.asked.now.size inv c.args.asked.now.flows found.0 c.size-size.ensures.set edge_wise found.1);
    }
