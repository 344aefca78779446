-- The number of rules in chains, and the limits of a rule set.
use Rattle.std.specs.Prelude.{ℕ, ◌+◌, List, [], ◌∷◌, length}
use Rattle.ipt_rules.specs.Chain.{Chain}

-- The maximum number of chains of a rule set.
abbrev pub chain_limit : ℕ
chain_limit = 4096

-- The maximum number of rules of a rule set, over all its chains.
abbrev pub rule_limit : ℕ
rule_limit = 1000000

-- The number of rules in all chains.
abbrev pub rule_count : List Chain → ℕ
rule_count [] = 0
rule_count (x ∷ xs) = length x.rules + rule_count xs
