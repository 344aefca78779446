use Rattle.rules_space.proofs.RulesLaws.{chains_give}
use Rattle.rules_space.proofs.held_rules.HeldRules.slice.Goals as goal

pub invariant_of-result : goal.invariant_of-result
invariant_of-result c = chains_give c.in-Some.slice c.rules-rules.ensures.deterministic
