use Rattle.std.proofs.Common.{sym, subst}
use Rattle.nft_rules.specs.declared.table.Rule.{Rule}
use Rattle.nft_rules.specs.Semantics.{Gives}
use Rattle.nft_space.proofs.rule.rule_within.Goals as goal

pub returns-in-Map-clause-gives : goal.returns-in-Map-clause-gives
returns-in-Map-clause-gives c = λ p inside.
    subst (λ (r : Rule). Gives c.args.state p r c.map_within.result) (sym c.in-Map.is) (c.map_within.ensures.gives p c.args.state inside)
