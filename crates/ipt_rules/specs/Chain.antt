-- The model of chains of rules, numbered from 0 with INPUT, FORWARD and OUTPUT first.
use Rattle.std.specs.Prelude.{ℕ, zero, suc, List, [], ◌∷◌, ◌++◌, Option, Some, None, codes, slice_get, bytes_eq}
use Rattle.std.specs.List.{position_from}
use Rattle.std.specs.Option.{option_map_or, option_and_then}
use Rattle.ipt_rules.specs.declared.rule.Rule.{Rule}
use Rattle.ipt_rules.specs.declared.rule.Policy.{Policy}
use Rattle.ipt_rules.specs.declared.rule.Policy.TheVariants.{Accept}

-- A chain has a name, a policy if it is a built-in chain (a user chain has none), and its rules in order.
pub record Chain : Type 0 where
  pub name : List ℕ
  pub policy : Option Policy
  pub rules : List Rule

-- The three built-in chains of a table without rules.
abbrev pub built_in_chains : List Chain
built_in_chains =
    record { name = codes "INPUT"; policy = Some Accept; rules = [] } ∷
    record { name = codes "FORWARD"; policy = Some Accept; rules = [] } ∷
    record { name = codes "OUTPUT"; policy = Some Accept; rules = [] } ∷ []

-- A user chain without rules.
abbrev pub user_chain : List ℕ → Chain
user_chain name = record { name = name; policy = None; rules = [] }

-- The chains with `change` applied to chain c.
abbrev pub changed_at : List Chain → ℕ → (Chain → Chain) → List Chain
changed_at [] c change = []
changed_at (x ∷ xs) zero change = change x ∷ xs
changed_at (x ∷ xs) (suc c) change = x ∷ changed_at xs c change

-- The chains with another policy of chain c.
unfoldable pub with_policy : List Chain → ℕ → Policy → List Chain
with_policy chains c policy = changed_at chains c (λ x. record x { policy = Some policy })

-- The chains with a rule appended to chain c.
unfoldable pub with_rule : List Chain → ℕ → Rule → List Chain
with_rule chains c rule = changed_at chains c (λ x. record x { rules = x.rules ++ rule ∷ [] })

-- The rules of chain c.
abbrev pub rules_of : List Chain → ℕ → List Rule
rules_of chains c = option_map_or (λ x. x.rules) (slice_get chains c) []

-- The name of chain c.
abbrev pub name_of : List Chain → ℕ → List ℕ
name_of chains c = option_map_or (λ x. x.name) (slice_get chains c) []

-- The number of the first chain with this name.
abbrev pub number_of : List Chain → List ℕ → Option ℕ
number_of chains name = position_from (λ x. bytes_eq x.name name) 0 chains

-- The policy of chain c. A user chain has none.
abbrev pub policy_of : List Chain → ℕ → Option Policy
policy_of chains c = option_and_then (λ x. x.policy) (slice_get chains c)
