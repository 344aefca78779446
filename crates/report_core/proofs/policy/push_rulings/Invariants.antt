use Rattle.std.proofs.Common.{length}
use Rattle.std.specs.List.{flat_map, range_with_len}
use Rattle.flow_set.specs.EveryFlow.{flow_or_none}
use Rattle.report_core.specs.inner.Growing.{Grows}
use Rattle.report_core.specs.inner.Rulings.{ReportsStatuses, policy_in}
use Rattle.report_core.specs.inner.Trying.{AreTriedOn}
use Rattle.report_core.proofs.policy.push_rulings.Given as goal

-- The flows of the hosts so far are reported.
abbrev pub invariant-loop-from : goal.invariant-loop-from
invariant-loop-from l = record {
  told :
      Grows (ReportsStatuses l.fn.rulings.description.now (policy_in l.fn.rulings) (flat_map (λ from. flat_map (flow_or_none from) (range_with_len 0 (length l.fn.rulings.description.now.hosts))) (range_with_len 0 l.from)))
      l.fn.text.items l.text.items;
  tried : AreTriedOn l.fn.rulings.description.now l.fn.rulings.permitted.now.flows l.trials.items;
}
