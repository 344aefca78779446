-- Rules that are appended to a list, and chains that are added, up to the limit of a rule set.
use Rattle.std.specs.Prelude.{◌≡◌, ◌≤◌, ◌<◌, ◌+◌, ◌-◌, ℕ, Bool, true, false, List, [], ◌∷◌, ◌++◌, length}
use Rattle.ipt_rules.specs.declared.rule.Rule.{Rule}
use Rattle.ipt_rules.specs.Chain.{Chain}
use Rattle.ipt_rules.specs.ChainTable.{chain_limit, rule_count, rule_limit}
use Rattle.emit_core.specs.inner.Filling.{with_rules}

-- The maximum number of chains of a table besides the base chain, if its chains are a rule set.
abbrev pub table_limit : ℕ
table_limit = chain_limit - 3

-- The rules were appended, or else there are too many rules.
abbrev pub Appends : List Rule → List Rule → List Rule → Bool → Type 0
Appends old more new true = new ≡ old ++ more
Appends old more new false = rule_limit < length (old ++ more)

-- The rules of the chains are counted, and not too many.
pub record AreCounted (chains : List Chain) (count : ℕ) : Type 0 where
  pub counted : count ≡ rule_count chains
  pub few : count ≤ rule_limit

-- The rules were appended to chain c and are counted, or else there are too many rules.
abbrev pub Fills : List Chain → ℕ → List Rule → List Chain → ℕ → Bool → Type 0
Fills old c rules new count true = (new ≡ with_rules old c rules) × AreCounted new count
Fills old c rules new count false = rule_limit < rule_count old + length rules

-- The chain was added and its rules are counted, or else there are too many rules.
abbrev pub Adds : List Chain → Chain → List Chain → ℕ → Bool → Type 0
Adds old x new count true = (new ≡ old ++ x ∷ []) × AreCounted new count
Adds old x new count false = rule_limit < rule_count (old ++ x ∷ [])
