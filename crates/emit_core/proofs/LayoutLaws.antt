-- Lemmas on the layout: the number of its chains and the length of FORWARD, the targets of its jumps, and the distinct names of its chains.
use Rattle.std.proofs.Common.{◌≡◌, ℕ, ◌+◌, ◌*◌, ◌^◌, ◌%◌, ◌<◌, ◌≤◌, zero, suc, Bool, true, false, ◌&&◌, List, [], ◌∷◌, Option, Some, None, length, map, refl, sym, subst, ◌∙◌, arith, length-append}
use Rattle.std.specs.Prelude.{nat_le, nat_lt, IsTrue, codes, decimal, bytes_eq}
use Rattle.std.specs.List.{flat_map, list_all, range_with_len, position_from}
use Rattle.std.proofs.lemmas.Bool.{and_from, and_parts}
use Rattle.std.proofs.lemmas.Bool.Decides.{nat_tests}
use Rattle.std.proofs.lemmas.Fmt.{decimal_injective, decimal_by_steps, length-decimal-le}
use Rattle.std.proofs.lemmas.List.{append_cancel_left}
use Rattle.std.proofs.lemmas.Slice.Eq.{bytes_eq-Decides}
use Rattle.std.proofs.lemmas.List.Folds.{list_all-append}
use Rattle.std.proofs.lemmas.List.Sums.{sum_by-cons}
use Rattle.std.proofs.lemmas.List.FromFn.{length-map-range_with_len}
use Rattle.host_net.specs.declared.prefix.Prefix.{Prefix}
use Rattle.host_net.specs.Host.{Host, rest_of}
use Rattle.host_net.specs.Hosts.{all_prefixes}
use Rattle.host_net.specs.inner.Hosts.{prefix_count}
use Rattle.host_net.specs.inner.Services.{AreServices}
use Rattle.pkt_core.specs.FlowPolicy.{FlowPolicy}
use Rattle.ipt_rules.specs.declared.rule.Rule.{Rule}
use Rattle.ipt_rules.specs.declared.rule.Target.{Target}
use Rattle.ipt_rules.specs.declared.rule.Target.TheVariants.{Accept, Drop, Reject, Return, Count, Jump}
use Rattle.ipt_rules.specs.Chain.{number_of}
use Rattle.ipt_rules.specs.ChainTable.{rule_count}
use Rattle.ipt_rules.specs.inner.Build.{has_unknown_target, first_unknown, refusal_of}
use Rattle.ipt_rules.specs.Loops.{IsAcyclic}
use Rattle.ipt_rules.proofs.LoopLaws.{goes_up, jumps_go_up, no_loop_upward}
use Rattle.ipt_rules.specs.Name.{is_user_name, is_reserved, is_printing, has_name_length}
use Rattle.emit_core.specs.declared.direction.Direction.{Direction}
use Rattle.emit_core.specs.declared.direction.Direction.TheVariants.{Outbound}
use Rattle.emit_core.proofs.LayoutRulesLaws.{PassForms, all_anywhere, anywhere, forward_rules_pass, host_rules_pass}
use Rattle.emit_core.specs.Layout.{for_each_prefix, host_rules, forward_rules, rest_jump, jump_from, chain_of, layout, host_chain, host_chain_name}
use Rattle.emit_core.specs.inner.Filling.{chains_up_to}

-- Rules for each prefix, at most m for one prefix.
few_for_each : (m : ℕ) (written : Prefix → List Rule) → ((q : Prefix) → length (written q) ≤ m) → (qs : List Prefix)
    → length (flat_map written qs) ≤ m * length qs
few_for_each m written few [] = omega arith
few_for_each m written few (q ∷ qs) =
    omega (arith, few q, few_for_each m written few qs, length-append (written q) (flat_map written qs))

-- Rules for each prefix of each host.
pub few_for_all : (m : ℕ) (written : ℕ → Prefix → List Rule) → ((j : ℕ) (q : Prefix) → length (written j q) ≤ m) → (k : ℕ) (hs : List Host)
    → length (for_each_prefix written k hs) ≤ m * prefix_count hs
few_for_all m written few k [] = omega arith
few_for_all m written few k (h ∷ hs) =
    subst (λ (n : ℕ). length (for_each_prefix written k (h ∷ hs)) ≤ m * n) (sym (sum_by-cons (λ (x : Host). length x.prefixes) h hs))
    (omega (arith, few_for_each m (written k) (few k) h.prefixes, few_for_all m written few (k + 1) hs, length-append (flat_map (written k) h.prefixes) (for_each_prefix written (k + 1) hs)))

few_rest_jump : (rest : Option ℕ) → length (rest_jump rest) ≤ 1
few_rest_jump None = omega arith
few_rest_jump (Some r) = omega arith

-- FORWARD has at most one jump for each prefix, and one more.
pub few_forward_rules : (hosts : List Host) → length (forward_rules hosts) ≤ prefix_count hosts + 1
few_forward_rules hosts =
    omega (arith, few_for_all 1 jump_from (λ j q. omega arith) 0 hosts, few_rest_jump (rest_of hosts), length-append (for_each_prefix jump_from 0 hosts) (rest_jump (rest_of hosts)))

-- The number of chains up to the n-th host.
pub length-chains_up_to : (policy : FlowPolicy) (n : ℕ) → length (chains_up_to policy n) ≡ n + 3
length-chains_up_to policy n = omega (arith, length-map-range_with_len (host_chain policy) 0 n)

-- If a rule jumps, its target is a chain from `low` on and before `past`.
abbrev pub jumps_between : (low past : ℕ) → Target → Bool
jumps_between low past (Jump c) = nat_le low c && nat_lt c past
jumps_between low past _ = true

-- No rule of a host's chain jumps.
pub host_rules_stay : (low : ℕ) (side : Direction) (policy : FlowPolicy) (i : ℕ) → AreServices policy.site.services
    → list_all (λ r. jumps_between low 0 r.target) (host_rules side policy i) ≡ true
host_rules_stay low side policy i are =
    let stay : Rule → Bool = λ r. jumps_between low 0 r.target in
    let forms : PassForms stay anywhere = record { dropping = λ side q at. refl; flow = λ side q n at is. refl; answer = λ side q n at is. refl } in
    host_rules_pass stay anywhere forms side policy i are (all_anywhere (all_prefixes policy.site.hosts))

jump_there : (n i : ℕ) → i < n → jumps_between 3 (n + 3) (Jump (chain_of i)) ≡ true
jump_there n i below = grind (arith, nat_tests)

-- Each rule of FORWARD jumps to the chain of a host.
forward_rules_jump : (hosts : List Host) → list_all (λ r. jumps_between 3 (length hosts + 3) r.target) (forward_rules hosts) ≡ true
forward_rules_jump hosts =
    forward_rules_pass (λ r. jumps_between 3 (length hosts + 3) r.target) anywhere hosts (λ q i below at. jump_there (length hosts) i below)
    (all_anywhere (all_prefixes hosts))

somewhere : (low past count : ℕ) → 3 ≤ low → past ≤ count → (t : Target) → jumps_between low past t ≡ true → has_unknown_target count t ≡ false
somewhere low past count user room Accept is = refl
somewhere low past count user room Drop is = refl
somewhere low past count user room Reject is = refl
somewhere low past count user room Return is = refl
somewhere low past count user room Count is = refl
somewhere low past count user room (Jump c) is = grind (arith, nat_tests)

-- Rules that jump to existing user chains have known targets.
pub none_nowhere : (low past count : ℕ) → 3 ≤ low → past ≤ count → (i : ℕ) (rules : List Rule)
    → list_all (λ r. jumps_between low past r.target) rules ≡ true → position_from (λ r. has_unknown_target count r.target) i rules ≡ None
none_nowhere low past count user room i [] all = refl
none_nowhere low past count user room i (r ∷ rs) all =
    let parts = and_parts (jumps_between low past r.target) (list_all (λ x. jumps_between low past x.target) rs) all in
    rw (somewhere low past count user room r.target parts.0) (none_nowhere low past count user room (i + 1) rs parts.1)

host_chains_known : (policy : FlowPolicy) (count c k n : ℕ) → AreServices policy.site.services
    → first_unknown count c (map (host_chain policy) (range_with_len k n)) ≡ None
host_chains_known policy count c k zero are = refl
host_chains_known policy count c k (suc n) are =
    rw (none_nowhere 3 0 count (omega arith) (omega arith) 0 (host_rules Outbound policy k) (host_rules_stay 3 Outbound policy k are))
    (host_chains_known policy count (c + 1) (k + 1) n are)

-- Every jump leads to an existing chain.
layout_known : (policy : FlowPolicy) → AreServices policy.site.services → first_unknown (length (layout policy)) 0 (layout policy) ≡ None
layout_known policy are =
    let count = length (layout policy) in
    let room : length policy.site.hosts + 3 ≤ count = omega (arith, length-chains_up_to policy (length policy.site.hosts)) in
    rw (none_nowhere 3 (length policy.site.hosts + 3) count (omega arith) room 0 (forward_rules policy.site.hosts) (forward_rules_jump policy.site.hosts))
    (host_chains_known policy count 3 0 (length policy.site.hosts) are)

-- The layout of a policy for at most 256 hosts, with at most a million rules, is a rule set.
pub layout_accepted : (policy : FlowPolicy) → AreServices policy.site.services → length policy.site.hosts ≤ 256 → rule_count (layout policy) ≤ 1000000
    → refusal_of (layout policy) ≡ None
unfolding refusal_of
layout_accepted policy are few few_rules =
    let chains : nat_lt 4096 (length (layout policy)) ≡ false = grind (arith, nat_tests, length-chains_up_to policy (length policy.site.hosts)) in
    let rules : nat_lt 1000000 (rule_count (layout policy)) ≡ false = grind (arith, nat_tests) in
    rw (chains, rules) (layout_known policy are)

upward : (low past c : ℕ) → c < low → (t : Target) → jumps_between low past t ≡ true → goes_up c t ≡ true
upward low past c below Accept is = refl
upward low past c below Drop is = refl
upward low past c below Reject is = refl
upward low past c below Return is = refl
upward low past c below Count is = refl
upward low past c below (Jump d) is = grind (arith, nat_tests)

-- If the jumps of a chain lead to later chains, they lead upwards.
pub all_upward : (low past c : ℕ) → c < low → (rules : List Rule) → list_all (λ r. jumps_between low past r.target) rules ≡ true
    → list_all (λ r. goes_up c r.target) rules ≡ true
all_upward low past c below [] all = refl
all_upward low past c below (r ∷ rs) all =
    let parts = and_parts (jumps_between low past r.target) (list_all (λ x. jumps_between low past x.target) rs) all in
    and_from _ _ (upward low past c below r.target parts.0) (all_upward low past c below rs parts.1)

host_chains_up : (policy : FlowPolicy) (c k n : ℕ) → AreServices policy.site.services
    → jumps_go_up c (map (host_chain policy) (range_with_len k n)) ≡ true
host_chains_up policy c k zero are = refl
host_chains_up policy c k (suc n) are =
    and_from _ _ (all_upward (c + 1) 0 c (omega arith) (host_rules Outbound policy k) (host_rules_stay (c + 1) Outbound policy k are))
    (host_chains_up policy (c + 1) (k + 1) n are)

-- Jumps lead from FORWARD to the chains of hosts, and these have no jumps.
pub layout_no_loop : (policy : FlowPolicy) → AreServices policy.site.services → IsAcyclic (layout policy)
layout_no_loop policy are =
    no_loop_upward (layout policy)
    (and_from _ _
    (all_upward 3 (length policy.site.hosts + 3) 1 (omega arith) (forward_rules policy.site.hosts) (forward_rules_jump policy.site.hosts))
    (host_chains_up policy 3 0 (length policy.site.hosts) are))

-- Hosts with different numbers have chains with different names.
host_chain_name_injective : (i j : ℕ) → i < 2 ^ 16 → j < 2 ^ 16 → host_chain_name i ≡ host_chain_name j → i ≡ j
host_chain_name_injective i j i_fits j_fits same =
    decimal_injective i j (omega arith) (omega arith) (append_cancel_left (codes "H") (decimal i) (decimal j) same)

pub other_name : (i j : ℕ) → i < j → j < 2 ^ 16 → bytes_eq (host_chain_name i) (host_chain_name j) ≡ false
other_name i j before fits = by_test (bytes_eq (host_chain_name i) (host_chain_name j)) refl
  where
    by_test : (b : Bool) → bytes_eq (host_chain_name i) (host_chain_name j) ≡ b → b ≡ false
    by_test true is =
        let same = host_chain_name_injective i j (omega arith) fits ((bytes_eq-Decides (host_chain_name i) (host_chain_name j)).0 is) in
        absurd (omega arith)
    by_test false is = refl

host_name_unused : (policy : FlowPolicy) (at k n i : ℕ) → k + n ≤ i → i < 2 ^ 16
    → position_from (λ x. bytes_eq x.name (host_chain_name i)) at (map (host_chain policy) (range_with_len k n)) ≡ None
host_name_unused policy at k zero i before fits = refl
host_name_unused policy at k (suc n) i before fits =
    rw (other_name k i (omega arith) fits) (host_name_unused policy (at + 1) (k + 1) n i (omega arith) fits)

-- The name of a host's chain differs from the names before it.
pub name_unused : (policy : FlowPolicy) (i : ℕ) → i < 2 ^ 16
    → number_of (chains_up_to policy i) (host_chain_name i) ≡ None
name_unused policy i fits = host_name_unused policy 3 0 i i (omega arith) fits

digit_in_name : (d : ℕ) → d < 10 → list_all is_printing ((48 + d) ∷ []) ≡ true
digit_in_name d small = grind (arith, nat_tests)

digits_in_name : (n : ℕ) → n < 2 ^ 64 → list_all is_printing (decimal n) ≡ true
digits_in_name n fits =
    decimal_by_steps (λ m ds. list_all is_printing ds ≡ true) (λ m small. digit_in_name m small)
    (λ m ds large front. list_all-append is_printing ds ((48 + m % 10) ∷ []) ∙ and_from _ _ front (digit_in_name (m % 10) (omega arith)))
    n fits

-- The name of a host's chain is a legal name of a user chain.
pub host_chain_name_legal : (i : ℕ) → i < 2 ^ 16 → IsTrue (is_user_name (host_chain_name i))
unfolding is_user_name is_reserved
host_chain_name_legal i fits =
    let short : length (decimal i) ≤ 5 = length-decimal-le 5 i (omega arith) (omega arith) (omega arith) in
    let long : has_name_length (host_chain_name i) ≡ true = grind (arith, nat_tests) in
    and_from _ _ long (and_from _ _ (and_from _ _ refl (digits_in_name i (omega arith))) refl)
