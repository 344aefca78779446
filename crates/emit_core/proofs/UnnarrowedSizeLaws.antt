-- If all flows are unrestricted, the chains of a policy never have too many rules.
use Rattle.std.proofs.Common.{ℕ, zero, suc, ◌+◌, ◌*◌, ◌≤◌, Bool, true, false, not, ◌&&◌, List, [], ◌∷◌, ◌++◌, Option, Some, None, length, map, sym, subst, arith, length-append}
use Rattle.std.specs.Prelude.{if◌then◌else◌}
use Rattle.std.specs.List.{range_with_len}
use Rattle.std.proofs.Math.Nat.{mul-le-mul_left, mul-le-mul_right}
use Rattle.host_net.specs.declared.prefix.Prefix.{Prefix}
use Rattle.host_net.specs.Host.{rest_of}
use Rattle.host_net.specs.inner.Hosts.{IsHosts, prefix_count}
use Rattle.ipt_rules.specs.declared.rule.Rule.{Rule}
use Rattle.ipt_rules.specs.declared.rule.Target.TheVariants.{Accept, Drop}
use Rattle.ipt_rules.specs.ChainTable.{rule_count}
use Rattle.pkt_core.specs.FlowPolicy.{FlowPolicy}
use Rattle.emit_core.specs.declared.direction.Direction.{Direction}
use Rattle.emit_core.specs.declared.direction.Direction.TheVariants.{Outbound}
use Rattle.emit_core.specs.EmitRefusals.{rule_limit}
use Rattle.emit_core.specs.Layout.{match_established, match_peer, for_each_prefix, host_chain, host_rules, is_open, layout}
use Rattle.emit_core.proofs.LayoutLaws.{few_for_all, few_forward_rules}
use Rattle.emit_core.specs.Directions.{connects, other_direction}
use Rattle.emit_core.specs.inner.UnnarrowedLayout.{whole_accepts, whole_drops, whole_to_rest, without_services}
use Rattle.emit_core.proofs.UnnarrowedLaws.{host_rules-unnarrowed}

one_at_most : (b c : Bool) (x y : Rule) → length (if b then x ∷ [] else (if c then y ∷ [] else [])) ≤ 1
one_at_most true c x y = omega arith
one_at_most false true x y = omega arith
one_at_most false false x y = omega arith

one_if : (b : Bool) (x : Rule) → length (if b then x ∷ [] else []) ≤ 1
one_if true x = omega arith
one_if false x = omega arith

few_accepts : (side : Direction) (policy : FlowPolicy) (i j : ℕ) (q : Option Prefix) → length (whole_accepts side policy i j q) ≤ 1
few_accepts side policy i j q =
    one_at_most (connects side policy.permitted i j) (connects (other_direction side) policy.stateful i j) (match_peer side q None Accept) (match_peer side q match_established Accept)

few_at_prefix : (side : Direction) (policy : FlowPolicy) (i : ℕ) (rest : Option ℕ) (j : ℕ) (q : Prefix)
    → length (whole_accepts side policy i j (Some q) ++ whole_drops side policy i rest j q) ≤ 2
few_at_prefix side policy i rest j q =
    omega (
      arith,
      few_accepts side policy i j (Some q),
      one_if (is_open side policy i rest && not (connects side policy.permitted i j)) (match_peer side (Some q) None Drop),
      length-append (whole_accepts side policy i j (Some q)) (whole_drops side policy i rest j q),
    )

few_to_rest : (side : Direction) (policy : FlowPolicy) (i : ℕ) (rest : Option ℕ) → length (whole_to_rest side policy i rest) ≤ 1
few_to_rest side policy i None = omega arith
few_to_rest side policy i (Some r) = few_accepts side policy i r None

-- A host's chain has at most two rules for each prefix, and two more.
few_host_rules : (side : Direction) (policy : FlowPolicy) (i : ℕ)
    → length (host_rules side (without_services policy) i) ≤ 2 * prefix_count policy.site.hosts + 2
few_host_rules side policy i =
    let at_prefixes : List Rule = for_each_prefix (λ j q. whole_accepts side policy i j (Some q) ++ whole_drops side policy i (rest_of policy.site.hosts) j q) 0 policy.site.hosts in
    let others : List Rule = whole_to_rest side policy i (rest_of policy.site.hosts) in
    subst (λ (rules : List Rule). length rules ≤ 2 * prefix_count policy.site.hosts + 2) (sym (host_rules-unnarrowed side policy i))
    (omega (
      arith,
      few_for_all 2 (λ j q. whole_accepts side policy i j (Some q) ++ whole_drops side policy i (rest_of policy.site.hosts) j q) (few_at_prefix side policy i (rest_of policy.site.hosts)) 0 policy.site.hosts,
      few_to_rest side policy i (rest_of policy.site.hosts),
      length-append at_prefixes (others ++ match_peer side None None Drop ∷ []),
      length-append others (match_peer side None None Drop ∷ []),
    ))

few_host_chains : (policy : FlowPolicy) (k n : ℕ)
    → rule_count (map (host_chain (without_services policy)) (range_with_len k n)) ≤ n * (2 * prefix_count policy.site.hosts + 2)
few_host_chains policy k zero = omega arith
few_host_chains policy k (suc n) = omega (arith, few_host_rules Outbound policy k, few_host_chains policy (k + 1) n)

pub few_rules-unnarrowed : (policy : FlowPolicy) → IsHosts policy.site.hosts → rule_count (layout (without_services policy)) ≤ rule_limit
few_rules-unnarrowed policy known =
    let few : length policy.site.hosts ≤ 256 = known.few in
    let prefixes : prefix_count policy.site.hosts ≤ 1024 = known.few_prefixes in
    let each : 2 * prefix_count policy.site.hosts + 2 ≤ 2050 = omega arith in
    omega (
      arith,
      few_forward_rules policy.site.hosts,
      few_host_chains policy 0 (length policy.site.hosts),
      mul-le-mul_left (length policy.site.hosts) each,
      mul-le-mul_right 2050 few,
    )
