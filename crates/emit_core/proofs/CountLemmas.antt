-- The number of rules of the chains of a layout: it fits 32 bits, and it is counted while the chains are added.
use Rattle.std.proofs.Common.{◌≡◌, ℕ, zero, suc, ◌+◌, ◌*◌, ◌<◌, ◌≤◌, ◌^◌, List, [], ◌∷◌, ◌++◌, None, length, map, ap, sym, ◌∙◌, arith}
use Rattle.std.specs.List.{range_with_len}
use Rattle.std.proofs.lemmas.List.FromFn.{map-range_with_len_more}
use Rattle.host_net.specs.inner.Site.{IsSite}
use Rattle.pkt_core.specs.FlowPolicy.{FlowPolicy}
use Rattle.ipt_rules.specs.declared.rule.Rule.{Rule}
use Rattle.ipt_rules.specs.Chain.{Chain}
use Rattle.ipt_rules.specs.ChainTable.{rule_count}
use Rattle.ipt_rules.proofs.ChainLaws.{rule_count-append}
use Rattle.emit_core.specs.declared.direction.Direction.TheVariants.{Outbound}
use Rattle.emit_core.specs.EmitRefusals.{rule_limit}
use Rattle.emit_core.specs.Layout.{entry_chains, host_rules, host_chain, host_chain_name, forward_rules}
use Rattle.emit_core.proofs.FewRulesLaws.{few_host_rules}
use Rattle.emit_core.proofs.LayoutLaws.{few_forward_rules}
use Rattle.emit_core.specs.inner.Filling.{AreCounted, chains_up_to}

-- 1. The number of rules of all chains.

few_host_chains : (policy : FlowPolicy) (k n : ℕ) → IsSite policy.site
    → rule_count (map (host_chain policy) (range_with_len k n)) ≤ n * 33825
few_host_chains policy k zero is = omega arith
few_host_chains policy k (suc n) is = omega (arith, few_host_rules Outbound policy k is, few_host_chains policy (k + 1) n is)

-- The number of rules of the chains up to that of the n-th host fits 32 bits.
few_rules : (policy : FlowPolicy) (n : ℕ) → IsSite policy.site → n ≤ 256 → rule_count (chains_up_to policy n) ≤ 8660225
few_rules policy n is most =
    let few = is.hosts.few_prefixes in
    omega (arith, few, few_forward_rules policy.site.hosts, few_host_chains policy 0 n is, most)

-- 2. The count so far.

-- The chains up to that of the n-th host, and one more.
next_chain : (policy : FlowPolicy) (n : ℕ) → chains_up_to policy (n + 1) ≡ chains_up_to policy n ++ host_chain policy n ∷ []
next_chain policy n =
    ap (λ (x : List Chain). chains_up_to policy 0 ++ x) (map-range_with_len_more (host_chain policy) 0 n n (omega arith))

next_count : (policy : FlowPolicy) (n count more : ℕ) → count ≡ rule_count (chains_up_to policy n)
    → more ≡ length (host_rules Outbound policy n) → count + more ≡ rule_count (chains_up_to policy (n + 1))
next_count policy n count more before all =
    omega (
      arith,
      before,
      all,
      ap rule_count (next_chain policy n),
      rule_count-append (chains_up_to policy n) (host_chain policy n ∷ []),
    )

-- The count after the rules of one more host.
pub next_fits : (policy : FlowPolicy) (n count more : ℕ) → IsSite policy.site → n < length policy.site.hosts
    → count ≡ rule_count (chains_up_to policy n) → more ≡ length (host_rules Outbound policy n) → count + more < 2 ^ 32
next_fits policy n count more is below before all =
    let few = is.hosts.few in
    omega (arith, next_count policy n count more before all, few_rules policy (n + 1) is (omega (arith, few, below)))

-- 3. Chains that are stored while the count is within the limit.

pub entries_counted : (policy : FlowPolicy) (chains : List Chain) (count : ℕ) → chains ≡ entry_chains policy.site.hosts
    → count ≡ length (forward_rules policy.site.hosts) → AreCounted (chains_up_to policy 0) chains count
entries_counted policy chains count are all = record { counted = omega (arith, all); kept = λ few. are }

pub chain_kept : (policy : FlowPolicy) (n : ℕ) (chains new : List Chain) (count more : ℕ) (rules : List Rule)
    → AreCounted (chains_up_to policy n) chains count → more ≡ length (host_rules Outbound policy n) → count + more ≤ rule_limit
    → rules ≡ host_rules Outbound policy n → new ≡ chains ++ record { name = host_chain_name n; policy = None; rules = rules } ∷ []
    → AreCounted (chains_up_to policy (n + 1)) new (count + more)
chain_kept policy n chains new count more rules before all few are added = record {
  counted = next_count policy n count more before.counted all;
  kept = λ still.
      added
      ∙ ap (λ (x : List Chain). x ++ record { name = host_chain_name n; policy = None; rules = rules } ∷ []) (before.kept (omega (arith, few)))
      ∙ ap (λ (x : List Rule). chains_up_to policy n ++ record { name = host_chain_name n; policy = None; rules = x } ∷ []) are
      ∙ sym (next_chain policy n);
}

pub too_many_kept : (policy : FlowPolicy) (n : ℕ) (chains : List Chain) (count more : ℕ)
    → AreCounted (chains_up_to policy n) chains count → more ≡ length (host_rules Outbound policy n) → rule_limit < count + more
    → AreCounted (chains_up_to policy (n + 1)) chains (count + more)
too_many_kept policy n chains count more before all many = record {
  counted = next_count policy n count more before.counted all;
  kept = λ few. absurd (omega (arith, few, many));
}
