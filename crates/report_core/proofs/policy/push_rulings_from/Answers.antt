use Rattle.flow_set.specs.EveryFlow.{flow_or_none}
use Rattle.report_core.specs.inner.Rulings.{policy_in}
use Rattle.report_core.proofs.FlowStatusLemmas.{grows_next}
use Rattle.report_core.proofs.policy.push_rulings_from.Goals as goal

pub loop-to-preserved : goal.loop-to-preserved
loop-to-preserved c = record {
  told =
      grows_next c.args.rulings.now.description.now (policy_in c.args.rulings.now) (flow_or_none c.args.from) c.loop-to.to c.args.text.now.items c.loop-to.text.items
      c.push_ruling_between.new.text.items c.loop-to.invariant.told c.in_ok-push_ruling_between.ensures.told;
  tried = c.in_ok-push_ruling_between.ensures.tried;
}
