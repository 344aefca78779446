use Rattle.std.proofs.Common.{◌≡◌, sym, ap, subst, ◌∙◌}
use Rattle.rules_space.specs.Rules.{AnyRules, filter_of}
use Rattle.rules_space.specs.Verdicts.{GivesOne}
use Rattle.rules_space.specs.RulesView.{held_rules}
use Rattle.rules_space.proofs.held_rules.HeldRules.by_ref.Goals as goal
use Rattle.rules_space.proofs.held_rules.HeldRules.by_ref.Goals.{in-Whole, in-Own, in-Lent}

pub invariant_of-result : goal.invariant_of-result
invariant_of-result c = subst (λ (r : AnyRules). GivesOne (filter_of r)) same c.self.invariant
  where
    same : held_rules c.self.inside.held ≡ held_rules c.match-self.result
    same = elim c.match-self.branch [
      | in-Whole w ↦ ap held_rules w.in-Whole.is ∙ sym (ap held_rules w.result-is)
      | in-Own w ↦ ap held_rules w.in-Own.is ∙ sym (ap held_rules w.result-is)
      | in-Lent w ↦ ap held_rules w.in-Lent.is ∙ sym (ap held_rules w.result-is)
    ]
