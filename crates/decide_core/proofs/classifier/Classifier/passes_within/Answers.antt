use Rattle.rules_space.specs.RulesView.{rules_of}
use Rattle.header_space.proofs.BoxLaws.{narrows_in}
use Rattle.decide_core.specs.inner.Classifying.{rules_by}
use Rattle.decide_core.proofs.ClassifyingLemmas.{passes_only}
use Rattle.decide_core.proofs.classifier.Classifier.passes_within.Goals as goal

pub returns-clause-passes : goal.returns-clause-passes
returns-clause-passes c = λ p inside.
    passes_only (rules_of c.text-text.result) (rules_by c.args.self.now) p c.passes_within-passes.result c.text-text.ensures c.rules-count.ensures.gives
    (c.last-greatest.ensures.packets p (narrows_in c.args.within.now c.passes_within-passes.new.within p c.passes_within-passes.ensures.part inside))
    (c.passes_within-passes.ensures.passes p inside)
