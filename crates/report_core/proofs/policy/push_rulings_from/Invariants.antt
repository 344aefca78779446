use Rattle.std.specs.List.{flat_map, range_with_len}
use Rattle.flow_set.specs.EveryFlow.{flow_or_none}
use Rattle.report_core.specs.inner.Growing.{Grows}
use Rattle.report_core.specs.inner.Rulings.{ReportsStatuses, policy_in}
use Rattle.report_core.specs.inner.Trying.{AreTriedOn}
use Rattle.report_core.proofs.policy.push_rulings_from.Given as goal

-- The flows to the hosts so far are reported.
abbrev pub invariant-loop-to : goal.invariant-loop-to
invariant-loop-to l = record {
  told : Grows (ReportsStatuses l.fn.rulings.description.now (policy_in l.fn.rulings) (flat_map (flow_or_none l.fn.from) (range_with_len 0 l.to))) l.fn.text.items l.text.items;
  tried : AreTriedOn l.fn.rulings.description.now l.fn.rulings.permitted.now.flows l.trials.items;
}
