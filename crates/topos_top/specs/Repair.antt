-- `repair DIALECT FILE`: the rules of the permitted policy, also if a listed policy violates an invariant.
use Rattle.net_core.specs.Network.{Network}
use Rattle.run_core.specs.Dialects.{rule_dialect_of}
use Rattle.run_core.specs.Outcomes.{Outcomes}
use Rattle.topos_top.specs.Rules.{rules_when}
use Rattle.run_core.specs.declared.dialect.Dialect.{Dialect}

-- The rules, if they can be emitted.
abbrev pub repair_outcomes : Dialect → Network → Outcomes
repair_outcomes dialect d = rules_when (Unit {0}) (rule_dialect_of dialect) d
