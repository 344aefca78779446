-- Lemmas on the layout for a host's machines: how its chains are filled, the number of their rules, and that they form a rule set.
use Rattle.std.proofs.Common.{◌≡◌, ℕ, ◌+◌, ◌≤◌, zero, suc, true, false, List, [], ◌∷◌, Option, Some, None, length, refl, sym, ap, subst, ◌∙◌, arith}
use Rattle.std.specs.Prelude.{nat_lt, IsTrue, slice_get, codes, option_map}
use Rattle.std.specs.List.{flat_map, list_all}
use Rattle.std.specs.Option.{option_map_or}
use Rattle.std.proofs.lemmas.Bool.{and_from}
use Rattle.std.proofs.lemmas.Bool.Decides.{nat_tests}
use Rattle.std.proofs.lemmas.List.Sums.{sum_by-cons}
use Rattle.host_net.specs.declared.prefix.Prefix.{Prefix}
use Rattle.host_net.specs.Host.{Host}
use Rattle.host_net.specs.inner.Hosts.{prefix_count}
use Rattle.host_net.specs.inner.Site.{IsSite}
use Rattle.pkt_core.specs.FlowPolicy.{FlowPolicy}
use Rattle.ipt_rules.specs.declared.rule.Rule.{Rule}
use Rattle.ipt_rules.specs.declared.rule.Policy.TheVariants.{Drop as Dropping}
use Rattle.ipt_rules.specs.inner.Build.{refusal_of}
use Rattle.ipt_rules.specs.Chain.{Chain, built_in_chains, with_policy}
use Rattle.ipt_rules.specs.ChainTable.{rule_count}
use Rattle.ipt_rules.specs.Loops.{IsAcyclic}
use Rattle.ipt_rules.proofs.LoopLaws.{no_loop_upward}
use Rattle.ipt_rules.specs.Name.{is_reserved, is_user_name}
use Rattle.emit_core.specs.declared.direction.Direction.{Direction}
use Rattle.emit_core.specs.declared.direction.Direction.TheVariants.{Outbound, Inbound}
use Rattle.emit_core.proofs.FewRulesLaws.{few_host_rules}
use Rattle.emit_core.specs.inner.Filling.{with_rules}
use Rattle.emit_core.proofs.FillingLaws.{with_rules-changed}
use Rattle.emit_core.specs.Layout.{host_rules}
use Rattle.emit_core.proofs.LayoutLaws.{all_upward, host_rules_stay, jumps_between, none_nowhere}
use Rattle.host_emit.specs.inner.LocalFilling.{dropping_chains}
use Rattle.host_emit.specs.LocalLayout.{entry_rules, local_layout, machine_chains, own_jump, prefixes_of}

-- 1. How the chains are filled.

pub all_dropping : with_policy (with_policy (with_policy built_in_chains 0 Dropping) 1 Dropping) 2 Dropping ≡ dropping_chains
unfolding with_policy
all_dropping = refl

pub incoming_legal : IsTrue (is_user_name (codes "IN"))
unfolding is_user_name is_reserved
incoming_legal = refl

pub outgoing_legal : IsTrue (is_user_name (codes "OUT"))
unfolding is_user_name is_reserved
outgoing_legal = refl

-- Each chain of a machine is filled once.
pub input_filled : (chains : List Chain) (rules : List Rule) → chains ≡ machine_chains [] [] [] [] → with_rules chains 0 rules ≡ machine_chains rules [] [] []
input_filled chains rules is = ap (λ (x : List Chain). with_rules x 0 rules) is ∙ with_rules-changed (machine_chains [] [] [] []) 0 rules

pub output_filled : (chains : List Chain) (input rules : List Rule) → chains ≡ machine_chains input [] [] []
    → with_rules chains 2 rules ≡ machine_chains input rules [] []
output_filled chains input rules is = ap (λ (x : List Chain). with_rules x 2 rules) is ∙ with_rules-changed (machine_chains input [] [] []) 2 rules

pub incoming_filled : (chains : List Chain) (c : ℕ) (input output rules : List Rule) → chains ≡ machine_chains input output [] [] → c ≡ 3
    → with_rules chains c rules ≡ machine_chains input output rules []
incoming_filled chains c input output rules is number =
    ap (λ (x : List Chain). with_rules x c rules) is ∙ ap (λ (n : ℕ). with_rules (machine_chains input output [] []) n rules) number
    ∙ with_rules-changed (machine_chains input output [] []) 3 rules

pub outgoing_filled : (chains : List Chain) (c : ℕ) (input output incoming rules : List Rule) → chains ≡ machine_chains input output incoming [] → c ≡ 4
    → with_rules chains c rules ≡ machine_chains input output incoming rules
outgoing_filled chains c input output incoming rules is number =
    ap (λ (x : List Chain). with_rules x c rules) is ∙ ap (λ (n : ℕ). with_rules (machine_chains input output incoming []) n rules) number
    ∙ with_rules-changed (machine_chains input output incoming []) 4 rules

-- 2. The number of rules.

pub machine_rule_count : (input output incoming outgoing : List Rule)
    → rule_count (machine_chains input output incoming outgoing) ≡ length input + length output + length incoming + length outgoing
machine_rule_count input output incoming outgoing = omega arith

few_entries : (side : Direction) (qs : List Prefix) → length (flat_map (own_jump side) qs) ≡ length qs
few_entries side [] = refl
few_entries side (q ∷ qs) = omega (arith, few_entries side qs)

length-entry_rules : (side : Direction) (qs : List Prefix) → length (entry_rules side qs) ≡ length qs + 1
length-entry_rules side qs = omega (arith, few_entries side qs)

-- A host has at most as many prefixes as all hosts together.
few_prefixes : (hosts : List Host) (h : ℕ) → length (prefixes_of hosts h) ≤ prefix_count hosts
few_prefixes [] h = omega arith
few_prefixes (x ∷ xs) zero =
    subst (λ (n : ℕ). length x.prefixes ≤ n) (sym (sum_by-cons (λ (y : Host). length y.prefixes) x xs)) (omega arith)
few_prefixes (x ∷ xs) (suc h) =
    let rest = few_prefixes xs h in
    subst (λ (n : ℕ). length (prefixes_of xs h) ≤ n) (sym (sum_by-cons (λ (y : Host). length y.prefixes) x xs)) (omega arith)

-- INPUT and OUTPUT of a host have few rules.
pub few_entry_rules : (side : Direction) (hosts : List Host) (h : ℕ) → prefix_count hosts ≤ 1024 → length (entry_rules side (prefixes_of hosts h)) ≤ 1025
few_entry_rules side hosts h few = omega (arith, length-entry_rules side (prefixes_of hosts h), few_prefixes hosts h)

-- The prefixes that are read from a host are its prefixes.
pub prefixes_read : (hosts : List Host) (h : ℕ) (qs : List Prefix) → option_map (λ x. x.prefixes) (slice_get hosts h) ≡ Some qs → qs ≡ prefixes_of hosts h
prefixes_read hosts h qs read = by_host (slice_get hosts h) read
  where
    by_host : (o : Option Host) → option_map (λ x. x.prefixes) o ≡ Some qs → qs ≡ option_map_or (λ x. x.prefixes) o []
    by_host None is = cc
    by_host (Some x) is = cc

-- The number of rules is far below the limit of a rule set, for all hosts and services.
pub few_local_rules : (policy : FlowPolicy) (h : ℕ) → IsSite policy.site → rule_count (local_layout policy h) ≤ 69700
few_local_rules policy h is =
    let few = is.hosts.few_prefixes in
    omega (
      arith,
      machine_rule_count (entry_rules Inbound (prefixes_of policy.site.hosts h)) (entry_rules Outbound (prefixes_of policy.site.hosts h)) (host_rules Inbound policy h) (host_rules Outbound policy h),
      few_entry_rules Inbound policy.site.hosts h few,
      few_entry_rules Outbound policy.site.hosts h few,
      few_host_rules Inbound policy h is,
      few_host_rules Outbound policy h is,
    )

-- 3. They form a rule set.

-- If a rule of INPUT or OUTPUT jumps, its target is one of the two user chains.
jumps_enter : (side : Direction) (qs : List Prefix) → list_all (λ r. jumps_between 3 5 r.target) (flat_map (own_jump side) qs) ≡ true
jumps_enter side [] = refl
jumps_enter Outbound (q ∷ qs) = jumps_enter Outbound qs
jumps_enter Inbound (q ∷ qs) = jumps_enter Inbound qs

entries_enter : (side : Direction) (qs : List Prefix) → list_all (λ r. jumps_between 3 5 r.target) (entry_rules side qs) ≡ true
entries_enter side qs = jumps_enter side qs

-- Jumps lead from INPUT and OUTPUT to the user chains, and these have no jumps.
pub local_no_loop : (policy : FlowPolicy) (h : ℕ) → IsSite policy.site → IsAcyclic (local_layout policy h)
local_no_loop policy h is =
    let own = prefixes_of policy.site.hosts h in
    no_loop_upward (local_layout policy h)
    (and_from _ _ (all_upward 3 5 0 (omega arith) (entry_rules Inbound own) (entries_enter Inbound own))
    (and_from _ _ (all_upward 3 5 2 (omega arith) (entry_rules Outbound own) (entries_enter Outbound own))
    (and_from _ _ (all_upward 4 0 3 (omega arith) (host_rules Inbound policy h) (host_rules_stay 4 Inbound policy h is.services))
    (and_from _ _ (all_upward 5 0 4 (omega arith) (host_rules Outbound policy h) (host_rules_stay 5 Outbound policy h is.services)) refl))))

-- There is no cause to refuse them.
pub local_accepted : (policy : FlowPolicy) (h : ℕ) → IsSite policy.site → refusal_of (local_layout policy h) ≡ None
unfolding refusal_of
local_accepted policy h is =
    let own = prefixes_of policy.site.hosts h in
    let rules : nat_lt 1000000 (rule_count (local_layout policy h)) ≡ false = grind (arith, nat_tests, few_local_rules policy h is) in
    rw (
      rules,
      none_nowhere 3 5 5 (omega arith) (omega arith) 0 (entry_rules Inbound own) (entries_enter Inbound own),
      none_nowhere 3 5 5 (omega arith) (omega arith) 0 (entry_rules Outbound own) (entries_enter Outbound own),
      none_nowhere 3 0 5 (omega arith) (omega arith) 0 (host_rules Inbound policy h) (host_rules_stay 3 Inbound policy h is.services),
      none_nowhere 3 0 5 (omega arith) (omega arith) 0 (host_rules Outbound policy h) (host_rules_stay 3 Outbound policy h is.services),
    ) refl
