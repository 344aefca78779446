-- Intermediate steps of building the chains of a machine. Callers do not see these; they use the layout.
use Rattle.std.specs.Prelude.{◌≤◌, IsTrue, List, [], ◌∷◌, Some, codes, length}
use Rattle.std.specs.List.{list_all}
use Rattle.ipt_rules.specs.declared.rule.Rule.{Rule}
use Rattle.ipt_rules.specs.declared.rule.Policy.TheVariants.{Drop as Dropping}
use Rattle.ipt_rules.specs.Chain.{Chain}
use Rattle.ipt_rules.specs.inner.RuleParts.{is_rule}

-- The built-in chains of a machine before they have rules.
abbrev pub dropping_chains : List Chain
dropping_chains =
    record { name = codes "INPUT"; policy = Some Dropping; rules = [] }
    ∷ record { name = codes "FORWARD"; policy = Some Dropping; rules = [] }
    ∷ record { name = codes "OUTPUT"; policy = Some Dropping; rules = [] }
    ∷ []

-- The rules of one chain: their number is limited, and each is a valid rule.
pub record AreChainRules (rules : List Rule) : Type 0 where
  pub few : length rules ≤ 33825
  pub parts : IsTrue (list_all is_rule rules)
