use Rattle.std.proofs.Common.{sym, ◌∙◌}
use Rattle.header_space.specs.Matching.{fits}
use Rattle.ipt_rules.specs.Matching.{state_matches}
use Rattle.ipt_rules.proofs.HeaderLemmas.{both_fit, not_by_state}
use Rattle.ipt_rules.proofs.rule.Rule.matches_within.Goals as goal

pub returns-then-not-state_matches-clause-alike : goal.returns-then-not-state_matches-clause-alike
returns-then-not-state_matches-clause-alike c = λ p inside.
    not_by_state p c.args.state c.args.self.now (sym c.state_matches.ensures ∙ c.if-not-state_matches.true)

pub returns-in-Some-clause-alike : goal.returns-in-Some-clause-alike
returns-in-Some-clause-alike c = λ p inside.
    c.in-Some.ensures.header p c.args.state
    ∙ both_fit (fits c.in-Some.header p) c.narrow_by.result (state_matches c.args.self.now.state c.args.state) (c.narrow_by.ensures.alike p inside)
    (sym c.state_matches.ensures ∙ c.if-not-state_matches.false)
