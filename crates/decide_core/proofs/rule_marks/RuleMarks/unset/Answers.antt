use Rattle.std.proofs.Common.{arith}
use Rattle.std.proofs.lemmas.Grind.{common_steps}
use Rattle.decide_core.specs.inner.Classifying.{rules_by}
use Rattle.decide_core.proofs.ClassifyingLemmas.{unset_next}
use Rattle.decide_core.proofs.rule_marks.RuleMarks.unset.Goals as goal

pub loop-chain-preserved : goal.loop-chain-preserved
loop-chain-preserved c = rw (unset_next (rules_by c.args.classifier.now) c.loop-chain.chain) (grind (arith, common_steps))
