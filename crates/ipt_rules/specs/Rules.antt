-- The rules of all chains as one list.
use Rattle.std.specs.Prelude.{List}
use Rattle.std.specs.List.{flat_map}
use Rattle.ipt_rules.specs.declared.rule.Rule.{Rule}
use Rattle.ipt_rules.specs.Chain.{Chain}

-- The rules of all chains, in the order of the chains.
abbrev pub all_rules : List Chain → List Rule
all_rules chains = flat_map (λ x. x.rules) chains
