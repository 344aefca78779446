-- Chains and rules that are added in sequence. The contracts of layouts mention none of it; they specify the chains.
use Rattle.std.specs.Prelude.{◌≡◌, ◌≤◌, ℕ, List, [], ◌∷◌, ◌++◌, map}
use Rattle.std.specs.List.{range_with_len}
use Rattle.pkt_core.specs.FlowPolicy.{FlowPolicy}
use Rattle.ipt_rules.specs.declared.rule.Rule.{Rule}
use Rattle.ipt_rules.specs.Chain.{Chain, with_rule}
use Rattle.ipt_rules.specs.ChainTable.{rule_count}
use Rattle.emit_core.specs.EmitRefusals.{rule_limit}
use Rattle.emit_core.specs.Layout.{entry_chains, host_chain}

-- The chains with more rules at the end of chain c.
abbrev pub with_rules : List Chain → ℕ → List Rule → List Chain
with_rules chains c [] = chains
with_rules chains c (r ∷ rs) = with_rules (with_rule chains c r) c rs

-- The layout up to the chain of the n-th host.
abbrev pub chains_up_to : FlowPolicy → ℕ → List Chain
chains_up_to policy n = entry_chains policy.site.hosts ++ map (host_chain policy) (range_with_len 0 n)

-- The rules of all chains are counted, and the chains are stored if the count is within the limit.
pub record AreCounted (all chains : List Chain) (count : ℕ) : Type 0 where
  pub counted : count ≡ rule_count all
  pub kept : count ≤ rule_limit → chains ≡ all
