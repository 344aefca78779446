use Rattle.rules_space.proofs.rules_ref.RulesRef.passes_within.Goals as goal

pub returns-in-Ofp-clause-passes : goal.returns-in-Ofp-clause-passes
returns-in-Ofp-clause-passes c = λ p inside. rw (c.in-Ofp.is, ← c.is_forward-in-Ofp.ensures) (c.verdict_within-in-Ofp.ensures.verdict p inside)
