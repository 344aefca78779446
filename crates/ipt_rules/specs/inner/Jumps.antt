-- The invariant of a rule set: its jumps go to existing chains, it stores the number of the first rule of each chain, and its
-- chains have an order in which each jump goes to an earlier chain. These definitions are internal; callers use the
-- postconditions of `build`.
use Rattle.std.specs.Prelude.{◌≡◌, ℕ, ◌<◌, ◌≤◌, not, IsNone, IsTrue, List, length}
use Rattle.std.specs.List.{list_all}
use Rattle.ipt_rules.specs.declared.rule.Target.{Target}
use Rattle.ipt_rules.specs.declared.rule.Target.TheVariants.{Jump}
use Rattle.ipt_rules.specs.inner.Build.{has_unknown_target, refusal_of}
use Rattle.ipt_rules.specs.Chain.{Chain, rules_of}
use Rattle.ipt_rules.specs.ChainTable.{chain_limit, rule_limit}
use Rattle.ipt_rules.specs.inner.ChainTable.{IsChainList}
use Rattle.ipt_rules.specs.inner.Ranks.{HasTopologicalOrder}
use Rattle.ipt_rules.specs.inner.Starts.{starts_from}

-- A jump goes to an existing chain.
abbrev pub JumpsIn : ℕ → Target → Type 0
JumpsIn count (Jump d) = d < count
JumpsIn count _ = Unit {0}

-- Each jump goes to an existing user chain.
pub record JumpsAreKnown (chains : List Chain) : Type 0 where
  pub from : (c : ℕ) → IsTrue (list_all (λ r. not (has_unknown_target (length chains) r.target)) (rules_of chains c))

-- The invariant of a rule set.
pub record IsRuleset (chains : List Chain) (rules : ℕ) (starts : List ℕ) : Type 0 where
  pub list : IsChainList chains rules
  pub accepted : IsNone (refusal_of chains)
  pub few_chains : length chains ≤ chain_limit
  pub few_rules : rules ≤ rule_limit
  pub jumps : JumpsAreKnown chains
  pub starts_are : starts ≡ starts_from 0 chains
  pub topological_order : HasTopologicalOrder chains
