-- Which chains form a table.
use Rattle.std.specs.Prelude.{◌≡◌, ◌≤◌, ℕ, ◌<◌, IsSome, IsTrue, List, [], Option, Some, None, length, codes}
use Rattle.std.specs.Option.{option_map_or, option_and_then}
use Rattle.ipt_rules.specs.Name.{is_user_name}
use Rattle.ipt_rules.specs.declared.rule.Rule.{Rule}
use Rattle.ipt_rules.specs.declared.rule.Policy.{Policy}
use Rattle.ipt_rules.specs.inner.Addresses.{AddressesFit}
use Rattle.ipt_rules.specs.Chain.{Chain, name_of, number_of, policy_of}
use Rattle.ipt_rules.specs.inner.RuleParts.{AreRules}
use Rattle.ipt_rules.specs.ChainTable.{rule_count}

-- The fields of a chain that may not exist.
abbrev pub rules_in : Option Chain → List Rule
rules_in chain = option_map_or (λ x. x.rules) chain []

abbrev pub name_in : Option Chain → List ℕ
name_in chain = option_map_or (λ x. x.name) chain []

abbrev pub policy_in : Option Chain → Option Policy
policy_in chain = option_and_then (λ x. x.policy) chain

-- The chains of a table: the built-in chains first, each with a policy, then user chains, each with a legal name and no policy.
-- Looking up the name of a chain finds this chain, hence all names are distinct.
pub record IsTable (chains : List Chain) : Type 0 where
  pub input : name_of chains 0 ≡ codes "INPUT"
  pub forward : name_of chains 1 ≡ codes "FORWARD"
  pub output : name_of chains 2 ≡ codes "OUTPUT"
  pub built_in : (c : ℕ) → c < 3 → IsSome (policy_of chains c)
  pub user : (c : ℕ) → 3 ≤ c → c < length chains → IsTrue (is_user_name (name_of chains c)) × (policy_of chains c ≡ None)
  pub found : (c : ℕ) → c < length chains → number_of chains (name_of chains c) ≡ Some c

-- The invariant of chains: they form a table, their numbers are in range, their rules are counted, their addresses have 32 bits, and
-- their matches on protocols and ports are valid.
pub record IsChainList (chains : List Chain) (rules : ℕ) : Type 0 where
  pub table : IsTable chains
  pub numbered : length chains ≤ 65536
  pub counted : rules ≡ rule_count chains
  pub addresses : AddressesFit chains
  pub parts : AreRules chains
