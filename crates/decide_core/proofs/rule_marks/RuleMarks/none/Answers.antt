use Rattle.decide_core.specs.inner.Classifying.{chain_count, rules_by}
use Rattle.decide_core.proofs.ClassifyingLemmas.{unset_has, unset_none}
use Rattle.decide_core.proofs.rule_marks.RuleMarks.none.Goals as goal

pub returns-clause-marks : goal.returns-clause-marks
returns-clause-marks c = rw c.in_ok-marks.ensures (unset_has (rules_by c.args.classifier.now))

pub returns-clause-none : goal.returns-clause-none
returns-clause-none c = λ place.
    let rules = rules_by c.args.classifier.now in rw c.in_ok-marks.ensures (unset_none rules (chain_count rules) place)
