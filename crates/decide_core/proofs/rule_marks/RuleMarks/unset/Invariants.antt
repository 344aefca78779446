use Rattle.std.proofs.Common.{◌≡◌, map}
use Rattle.decide_core.specs.inner.Classifying.{rules_by, unset_marks}
use Rattle.decide_core.proofs.rule_marks.RuleMarks.unset.Given as goal

abbrev pub invariant-loop-chain : goal.invariant-loop-chain
invariant-loop-chain l = map (λ row. row.items) l.rows.items ≡ unset_marks (rules_by l.classifier) l.chain
