-- The contents of a table: two values of type `Table` are the same table if they have the same contents.
use Rattle.std.specs.Prelude.{ℕ, List, map}
use Rattle.nft_rules.specs.declared.table.Chain.{Chain}
use Rattle.nft_rules.specs.declared.table.Element.{Element}
use Rattle.nft_rules.specs.declared.table.End.{End}
use Rattle.nft_rules.specs.declared.table.MatchRule.{MatchRule}
use Rattle.nft_rules.specs.declared.table.Rule.{Rule}
use Rattle.nft_rules.specs.declared.table.Rule.TheVariants.{Map, Match}
use Rattle.nft_rules.specs.declared.table.Table.{Table}

pub data RuleShape : Type 0 where
  MapOf : End → List Element → RuleShape
  MatchOf : MatchRule → RuleShape

abbrev pub rule_shape : Rule → RuleShape
rule_shape (Map m) = MapOf m.end m.elements.items
rule_shape (Match r) = MatchOf r

pub record ChainShape : Type 0 where
  pub name : List ℕ
  pub rules : List RuleShape

abbrev pub chain_shape : Chain → ChainShape
chain_shape x = record { name = x.name.items; rules = map rule_shape x.rules.items }

pub record TableShape : Type 0 where
  pub chains : List ChainShape
  pub forward : List RuleShape

abbrev pub table_shape : Table → TableShape
table_shape table = record { chains = map chain_shape table.chains.items; forward = map rule_shape table.forward.items }
