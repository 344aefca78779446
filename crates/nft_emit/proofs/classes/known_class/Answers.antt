use Rattle.std.proofs.Common.{List, map, subst}
use Rattle.nft_rules.specs.declared.table.Chain.{Chain}
use Rattle.nft_rules.specs.declared.table.Rule.TheVariants.{Match}
use Rattle.nft_emit.specs.inner.Building.{HasRules}
use Rattle.nft_emit.proofs.classes.known_class.Goals as goal

pub returns-then-has_rules : goal.returns-then-has_rules
returns-then-has_rules c =
    subst (λ (xs : List Chain). HasRules xs c.in_ok-number.field-0.now (map Match c.args.rules.now)) c.deref.ensures.value (c.has_rules.ensures c.if-has_rules.true)
