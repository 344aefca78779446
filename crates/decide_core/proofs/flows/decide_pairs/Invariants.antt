use Rattle.std.proofs.Common.{take}
use Rattle.rules_space.specs.RulesView.{rules_of}
use Rattle.decide_core.specs.Flows.{AreFlowsOfEach}
use Rattle.decide_core.proofs.flows.decide_pairs.Given as goal

abbrev pub invariant-loop-pair : goal.invariant-loop-pair
invariant-loop-pair l = AreFlowsOfEach (rules_of l.text) l.hosts (take l.pair-index l.pairs) l.flows.items
