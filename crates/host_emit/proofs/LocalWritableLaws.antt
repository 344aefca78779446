-- The layout for a host's machines is a rule set that is parsed back, and its text is within the size limit of the
-- parser.
use Rattle.std.proofs.Common.{◌≡◌, ℕ, zero, suc, ◌<◌, ◌≤◌, ◌∙◌, Bool, true, IsTrue, List, [], ◌∷◌, Some, None, length, refl, sym, arith}
use Rattle.std.specs.Prelude.{IsSome}
use Rattle.std.specs.List.{flat_map, list_all}
use Rattle.std.proofs.lemmas.Bool.{and_from, and_parts}
use Rattle.std.proofs.lemmas.List.Folds.{list_all-append}
use Rattle.host_net.specs.declared.prefix.Prefix.{Prefix}
use Rattle.host_net.specs.Host.{Host}
use Rattle.host_net.specs.Hosts.{all_prefixes}
use Rattle.host_net.specs.Site.{Site}
use Rattle.host_net.specs.inner.Site.{IsSite}
use Rattle.pkt_core.specs.FlowPolicy.{FlowPolicy}
use Rattle.ipt_rules.specs.declared.rule.Rule.{Rule}
use Rattle.ipt_rules.specs.inner.Addresses.{addresses_fit, AddressesFit}
use Rattle.ipt_rules.specs.Chain.{name_of, number_of, policy_of}
use Rattle.ipt_rules.specs.inner.ChainTable.{IsTable}
use Rattle.ipt_rules.specs.Name.{is_user_name}
use Rattle.ipt_rules.specs.inner.RuleParts.{is_rule, AreRules}
use Rattle.ipt_rules.specs.Text.{text}
use Rattle.ipt_rules.proofs.TextLaws.{text_short}
use Rattle.ipt_rules.specs.inner.Writable.{IsWritable}
use Rattle.emit_core.specs.declared.direction.Direction.{Direction}
use Rattle.emit_core.specs.declared.direction.Direction.TheVariants.{Outbound, Inbound}
use Rattle.emit_core.proofs.FewRulesLaws.{few_host_rules}
use Rattle.emit_core.specs.Layout.{host_rules}
use Rattle.emit_core.specs.OtherStates.{HaveNoOtherState, has_no_other_state}
use Rattle.emit_core.proofs.LayoutRulesLaws.{host_rules_are, host_rules_no_other_state}
use Rattle.emit_core.proofs.WritableLaws.{host_rules_addresses, network_fits, prefix_fits}
use Rattle.host_emit.specs.inner.LocalFilling.{AreChainRules}
use Rattle.host_emit.specs.LocalLayout.{entry_rules, local_layout, machine_chains, own_jump, prefixes_of}
use Rattle.host_emit.proofs.LocalLayoutLaws.{few_entry_rules, few_local_rules, incoming_legal, local_accepted, local_no_loop, outgoing_legal}

-- 1. The chains are a table.

machine_built_in : (input output incoming outgoing : List Rule) (c : ℕ) → c < 3 → IsSome (policy_of (machine_chains input output incoming outgoing) c)
machine_built_in input output incoming outgoing zero low = refl
machine_built_in input output incoming outgoing (suc zero) low = refl
machine_built_in input output incoming outgoing (suc (suc zero)) low = refl
machine_built_in input output incoming outgoing (suc (suc (suc c))) low = absurd (omega arith)

machine_user : (input output incoming outgoing : List Rule) (c : ℕ) → 3 ≤ c → c < 5
    → IsTrue (is_user_name (name_of (machine_chains input output incoming outgoing) c)) × (policy_of (machine_chains input output incoming outgoing) c ≡ None)
machine_user input output incoming outgoing zero high within = absurd (omega arith)
machine_user input output incoming outgoing (suc zero) high within = absurd (omega arith)
machine_user input output incoming outgoing (suc (suc zero)) high within = absurd (omega arith)
machine_user input output incoming outgoing (suc (suc (suc zero))) high within = (incoming_legal, refl)
machine_user input output incoming outgoing (suc (suc (suc (suc zero)))) high within = (outgoing_legal, refl)
machine_user input output incoming outgoing (suc (suc (suc (suc (suc c))))) high within = absurd (omega arith)

machine_found : (input output incoming outgoing : List Rule) (c : ℕ) → c < 5
    → number_of (machine_chains input output incoming outgoing) (name_of (machine_chains input output incoming outgoing) c) ≡ Some c
machine_found input output incoming outgoing zero within = refl
machine_found input output incoming outgoing (suc zero) within = refl
machine_found input output incoming outgoing (suc (suc zero)) within = refl
machine_found input output incoming outgoing (suc (suc (suc zero))) within = refl
machine_found input output incoming outgoing (suc (suc (suc (suc zero)))) within = refl
machine_found input output incoming outgoing (suc (suc (suc (suc (suc c))))) within = absurd (omega arith)

machine_table : (input output incoming outgoing : List Rule) → IsTable (machine_chains input output incoming outgoing)
machine_table input output incoming outgoing = record {
  input = refl;
  forward = refl;
  output = refl;
  built_in = λ c low. machine_built_in input output incoming outgoing c low;
  user = λ c high within. machine_user input output incoming outgoing c high within;
  found = λ c within. machine_found input output incoming outgoing c within;
}

-- 2. The matches of its rules.

-- A test that the rules of all chains pass.
machine_passes : (test : Rule → Bool) (input output incoming outgoing : List Rule)
    → list_all test input ≡ true → list_all test output ≡ true → list_all test incoming ≡ true → list_all test outgoing ≡ true
    → list_all (λ x. list_all test x.rules) (machine_chains input output incoming outgoing) ≡ true
machine_passes test input output incoming outgoing first second third fourth =
    and_from _ _ first (and_from _ _ second (and_from _ _ third (and_from _ _ fourth refl)))

-- The jumps match only on addresses.
jumps_are : (side : Direction) (qs : List Prefix) → list_all is_rule (flat_map (own_jump side) qs) ≡ true
jumps_are side [] = refl
jumps_are side (q ∷ qs) = jumps_are side qs

entries_are : (side : Direction) (qs : List Prefix) → list_all is_rule (entry_rules side qs) ≡ true
entries_are side qs = jumps_are side qs

-- Each chain has few rules, and their matches are valid.
pub entries_few : (side : Direction) (site : Site) (h : ℕ) → IsSite site → AreChainRules (entry_rules side (prefixes_of site.hosts h))
entries_few side site h is =
    let few = few_entry_rules side site.hosts h is.hosts.few_prefixes in
    record { few = omega (arith, few); parts = entries_are side (prefixes_of site.hosts h) }

pub users_few : (side : Direction) (policy : FlowPolicy) (h : ℕ) → IsSite policy.site → AreChainRules (host_rules side policy h)
users_few side policy h is = record { few = few_host_rules side policy h is; parts = host_rules_are side policy h is.services }

pub local_rules_are : (policy : FlowPolicy) (h : ℕ) → IsSite policy.site → AreRules (local_layout policy h)
local_rules_are policy h is =
    let own = prefixes_of policy.site.hosts h in
    machine_passes is_rule (entry_rules Inbound own) (entry_rules Outbound own) (host_rules Inbound policy h) (host_rules Outbound policy h)
    (entries_are Inbound own) (entries_are Outbound own) (host_rules_are Inbound policy h is.services) (host_rules_are Outbound policy h is.services)

-- They match no state besides ESTABLISHED.
jumps_no_other_state : (side : Direction) (qs : List Prefix) → list_all has_no_other_state (flat_map (own_jump side) qs) ≡ true
jumps_no_other_state side [] = refl
jumps_no_other_state side (q ∷ qs) = jumps_no_other_state side qs

pub local_no_other_state : (policy : FlowPolicy) (h : ℕ) → IsSite policy.site → HaveNoOtherState (local_layout policy h)
local_no_other_state policy h is =
    let own = prefixes_of policy.site.hosts h in
    machine_passes has_no_other_state (entry_rules Inbound own) (entry_rules Outbound own) (host_rules Inbound policy h) (host_rules Outbound policy h)
    (jumps_no_other_state Inbound own) (jumps_no_other_state Outbound own)
    (host_rules_no_other_state Inbound policy h is.services) (host_rules_no_other_state Outbound policy h is.services)

-- The addresses of a host have 32 bits, since they are among those of all hosts.
own_fit : (hosts : List Host) (h : ℕ) → list_all prefix_fits (all_prefixes hosts) ≡ true → list_all prefix_fits (prefixes_of hosts h) ≡ true
own_fit [] h all = refl
own_fit (x ∷ xs) zero all = (and_parts (list_all prefix_fits x.prefixes) (list_all prefix_fits (all_prefixes xs)) (sym (list_all-append prefix_fits x.prefixes (all_prefixes xs)) ∙ all)).0
own_fit (x ∷ xs) (suc h) all = own_fit xs h (and_parts (list_all prefix_fits x.prefixes) (list_all prefix_fits (all_prefixes xs)) (sym (list_all-append prefix_fits x.prefixes (all_prefixes xs)) ∙ all)).1

jumps_fit : (side : Direction) (qs : List Prefix) → list_all prefix_fits qs ≡ true → list_all addresses_fit (flat_map (own_jump side) qs) ≡ true
jumps_fit side [] all = refl
jumps_fit Outbound (q ∷ qs) all =
    let parts = and_parts (prefix_fits q) (list_all prefix_fits qs) all in
    and_from _ _ (and_from _ _ parts.0 refl) (jumps_fit Outbound qs parts.1)
jumps_fit Inbound (q ∷ qs) all =
    let parts = and_parts (prefix_fits q) (list_all prefix_fits qs) all in
    and_from _ _ parts.0 (jumps_fit Inbound qs parts.1)

entries_fit : (side : Direction) (qs : List Prefix) → list_all prefix_fits qs ≡ true → list_all addresses_fit (entry_rules side qs) ≡ true
entries_fit side qs all = jumps_fit side qs all

local_addresses : (policy : FlowPolicy) (h : ℕ) → IsSite policy.site → AddressesFit (local_layout policy h)
local_addresses policy h is =
    let own = prefixes_of policy.site.hosts h in
    let all = own_fit policy.site.hosts h (network_fits (all_prefixes policy.site.hosts) is.hosts.networks) in
    machine_passes addresses_fit (entry_rules Inbound own) (entry_rules Outbound own) (host_rules Inbound policy h) (host_rules Outbound policy h)
    (entries_fit Inbound own all) (entries_fit Outbound own all) (host_rules_addresses Inbound policy h is) (host_rules_addresses Outbound policy h is)

-- 3. Its text is parsed back, and it is within the size limit of the parser.

local_table : (policy : FlowPolicy) (h : ℕ) → IsTable (local_layout policy h)
local_table policy h =
    let own = prefixes_of policy.site.hosts h in
    machine_table (entry_rules Inbound own) (entry_rules Outbound own) (host_rules Inbound policy h) (host_rules Outbound policy h)

pub local_writable : (policy : FlowPolicy) (h : ℕ) → IsSite policy.site → IsWritable (local_layout policy h)
local_writable policy h is = record {
  table = local_table policy h;
  accepted = local_accepted policy h is;
  acyclic = local_no_loop policy h is;
  addresses = local_addresses policy h is;
  parts = local_rules_are policy h is;
}

pub local_short : (policy : FlowPolicy) (h : ℕ) → IsSite policy.site → length (text (local_layout policy h)) ≤ 67108864
local_short policy h is =
    omega (arith, text_short (local_layout policy h) (local_table policy h) (local_rules_are policy h is), few_local_rules policy h is)
