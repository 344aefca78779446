use Rattle.std.proofs.Common.{length}
use Rattle.std.specs.List.{flat_map, range_with_len}
use Rattle.flow_set.specs.EveryFlow.{flow_or_none}
use Rattle.report_core.specs.inner.Rulings.{policy_in}
use Rattle.report_core.proofs.FlowStatusLemmas.{grows_next}
use Rattle.report_core.proofs.policy.push_rulings.Goals as goal

pub loop-from-preserved : goal.loop-from-preserved
loop-from-preserved c = record {
  told =
      grows_next c.args.rulings.now.description.now (policy_in c.args.rulings.now) (λ from. flat_map (flow_or_none from) (range_with_len 0 (length c.args.rulings.now.description.now.hosts)))
      c.loop-from.from c.args.text.now.items c.loop-from.text.items c.push_rulings_from.new.text.items
      c.loop-from.invariant.told c.in_ok-push_rulings_from.ensures.told;
  tried = c.in_ok-push_rulings_from.ensures.tried;
}
