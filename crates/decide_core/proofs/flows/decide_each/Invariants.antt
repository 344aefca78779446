use Rattle.std.proofs.Common.{◌≡◌, map, take}
use Rattle.std.specs.List.{All}
use Rattle.rules_space.specs.RulesView.{rules_of}
use Rattle.decide_core.specs.Deciders.{AreDeciders}
use Rattle.decide_core.specs.ServiceRanges.{HasServiceBetween}
use Rattle.decide_core.proofs.flows.decide_each.Given as goal

abbrev pub invariant-loop-range : goal.invariant-loop-range
invariant-loop-range l = record {
  ranges : map (λ r. r.range) l.list.items ≡ take l.range-index l.ranges;
  deciders : All (λ r. AreDeciders (rules_of l.text) (HasServiceBetween l.from l.to r.range.low r.range.high) r.deciders) l.list.items;
}
