-- If the layout of a policy is within the rule limit, it is a rule set that is parsed back, and its text is within the size limit of the
-- parser.
use Rattle.std.proofs.Common.{◌≡◌, ℕ, zero, suc, ◌+◌, ◌^◌, ◌<◌, ◌≤◌, ◌∙◌, ap, sym, subst, refl, inl, inr, Bool, true, false, ◌&&◌, ◌||◌, ◌==◌, IsTrue, List, [], ◌∷◌, ◌++◌, Option, Some, None, length, map, arith, length-append}
use Rattle.std.specs.Prelude.{if◌then◌else◌, codes, decimal, IsSome, nat_le, nat_lt, slice_get, bytes_eq}
use Rattle.std.specs.List.{list_all, range_with_len, position_from}
use Rattle.std.specs.Option.{option_map_or}
use Rattle.std.proofs.lemmas.Bool.{and_from, and_parts, cases_lt}
use Rattle.std.proofs.lemmas.Bool.Decides.{nat_tests}
use Rattle.std.proofs.lemmas.Fmt.{length-decimal-le}
use Rattle.std.proofs.lemmas.Slice.Eq.{bytes_eq-Decides}
use Rattle.host_net.specs.declared.prefix.Prefix.{Prefix}
use Rattle.host_net.specs.declared.service.Service.{Service}
use Rattle.host_net.specs.Prefix.{is_exact}
use Rattle.host_net.proofs.PrefixTextLaws.{prefix_short}
use Rattle.host_net.specs.Hosts.{all_prefixes}
use Rattle.host_net.specs.inner.Hosts.{is_network}
use Rattle.host_net.specs.Service.{has_ports, has_all_ports, icmp, max_port}
use Rattle.host_net.specs.inner.Service.{is_service}
use Rattle.host_net.specs.inner.Services.{AreServices}
use Rattle.host_net.specs.inner.Site.{IsSite}
use Rattle.pkt_core.specs.FlowPolicy.{FlowPolicy}
use Rattle.ipt_rules.specs.declared.rule.Rule.{Rule}
use Rattle.ipt_rules.specs.declared.rule.Target.{Target}
use Rattle.ipt_rules.specs.declared.rule.Target.TheVariants.{Drop, Jump}
use Rattle.ipt_rules.specs.Chain.{name_of, policy_of, number_of}
use Rattle.ipt_rules.specs.ChainTable.{rule_count}
use Rattle.ipt_rules.specs.inner.ChainTable.{IsTable, name_in, policy_in}
use Rattle.ipt_rules.specs.Name.{is_user_name}
use Rattle.ipt_rules.specs.Text.{address_text, service_text, text}
use Rattle.ipt_rules.proofs.TextLaws.{HasNames, TakeAtMost, asked, at_most, counted_short, no_name, ports_short, protocol_short, takes_at_most, text_short_by}
use Rattle.ipt_rules.specs.inner.Addresses.{address_fits, addresses_fit, AddressesFit}
use Rattle.ipt_rules.specs.inner.Writable.{IsWritable}
use Rattle.emit_core.specs.declared.direction.Direction.{Direction}
use Rattle.emit_core.specs.declared.direction.Direction.TheVariants.{Outbound, Inbound}
use Rattle.emit_core.specs.EmitRefusals.{rule_limit}
use Rattle.emit_core.specs.Layout.{match_peer, chain_of, destination_part, forward_rules, from_service, host_chain, host_chain_name, host_rules, match_prefix, layout, port_part, protocol_part, source_part, to_service}
use Rattle.emit_core.proofs.LayoutRulesLaws.{PassForms, all_anywhere, anywhere, forward_rules_pass, host_rules_pass, is_narrowing, layout_passes, layout_rules_are, service_asked}
use Rattle.emit_core.proofs.LayoutLaws.{layout_accepted, layout_no_loop, length-chains_up_to, host_chain_name_legal, other_name}

-- 1. The chains are a table.

chain_at : (policy : FlowPolicy) (k n i j : ℕ) → k + i ≡ j → i < n
    → slice_get (map (host_chain policy) (range_with_len k n)) i ≡ Some (host_chain policy j)
chain_at policy k zero i j place below = absurd (omega arith)
chain_at policy k (suc n) zero j place below =
    let same : k ≡ j = omega (arith, place) in
    ap (λ (m : ℕ). Some (host_chain policy m)) same
chain_at policy k (suc n) (suc i) j place below = chain_at policy (k + 1) n i j (omega (arith, place)) (omega arith)

-- A host's chain is the one that is found by its name.
chain_found : (policy : FlowPolicy) (at k n i j m : ℕ) → k + i ≡ j → at + i ≡ m → i < n → j < 2 ^ 16
    → position_from (λ x. bytes_eq x.name (host_chain_name j)) at (map (host_chain policy) (range_with_len k n)) ≡ Some m
chain_found policy at k zero i j m place number below fits = absurd (omega arith)
chain_found policy at k (suc n) zero j m place number below fits =
    let same : k ≡ j = omega (arith, place) in
    let here : bytes_eq (host_chain_name k) (host_chain_name j) ≡ true = (bytes_eq-Decides (host_chain_name k) (host_chain_name j)).1 (ap host_chain_name same) in
    let found : at ≡ m = omega (arith, number) in
    rw here (ap (λ (c : ℕ). Some c) found)
chain_found policy at k (suc n) (suc i) j m place number below fits =
    rw (other_name k j (omega (arith, place)) fits) (chain_found policy (at + 1) (k + 1) n i j m (omega (arith, place)) (omega (arith, number)) (omega arith) fits)

layout_built_in : (policy : FlowPolicy) (c : ℕ) → c < 3 → IsSome (policy_of (layout policy) c)
layout_built_in policy zero low = refl
layout_built_in policy (suc zero) low = refl
layout_built_in policy (suc (suc zero)) low = refl
layout_built_in policy (suc (suc (suc c))) low = absurd (omega arith)

host_below : (policy : FlowPolicy) (i : ℕ) → suc (suc (suc i)) < length (layout policy) → i < length policy.site.hosts
host_below policy i within = omega (arith, length-chains_up_to policy (length policy.site.hosts))

layout_user : (policy : FlowPolicy) (c : ℕ) → length policy.site.hosts ≤ 256 → 3 ≤ c → c < length (layout policy)
    → IsTrue (is_user_name (name_of (layout policy) c)) × (policy_of (layout policy) c ≡ None)
layout_user policy zero few high within = absurd (omega arith)
layout_user policy (suc zero) few high within = absurd (omega arith)
layout_user policy (suc (suc zero)) few high within = absurd (omega arith)
layout_user policy (suc (suc (suc i))) few high within =
    let below = host_below policy i within in
    let there = chain_at policy 0 (length policy.site.hosts) i i (omega arith) below in
    (subst (λ (n : List ℕ). IsTrue (is_user_name n)) (sym (ap name_in there)) (host_chain_name_legal i (omega arith)), ap policy_in there)

layout_found : (policy : FlowPolicy) (c : ℕ) → length policy.site.hosts ≤ 256 → c < length (layout policy)
    → number_of (layout policy) (name_of (layout policy) c) ≡ Some c
layout_found policy zero few within = refl
layout_found policy (suc zero) few within = refl
layout_found policy (suc (suc zero)) few within = refl
layout_found policy (suc (suc (suc i))) few within =
    let below = host_below policy i within in
    let there = chain_at policy 0 (length policy.site.hosts) i i (omega arith) below in
    ap (λ (n : List ℕ). number_of (layout policy) n) (ap name_in there)
    ∙ chain_found policy 3 0 (length policy.site.hosts) i i (suc (suc (suc i))) (omega arith) (omega arith) below (omega arith)

layout_table : (policy : FlowPolicy) → length policy.site.hosts ≤ 256 → IsTable (layout policy)
layout_table policy few = record {
  input = refl;
  forward = refl;
  output = refl;
  built_in = λ c low. layout_built_in policy c low;
  user = λ c high within. layout_user policy c few high within;
  found = λ c within. layout_found policy c few within;
}

-- 2. Its addresses have 32 bits, since the addresses of the hosts' prefixes do.

abbrev pub prefix_fits : Prefix → Bool
prefix_fits q = nat_lt q.addr (2 ^ 32)

pub network_fits : (qs : List Prefix) → list_all is_network qs ≡ true → list_all prefix_fits qs ≡ true
network_fits [] all = refl
network_fits (q ∷ qs) all =
    let parts = and_parts (is_network q) (list_all is_network qs) all in
    let here = and_parts (prefix_fits q) (is_exact q && nat_le 1 q.len) parts.0 in
    and_from (prefix_fits q) (list_all prefix_fits qs) here.0 (network_fits qs parts.1)

prefix_part_fits : (q : Option Prefix) → option_map_or prefix_fits q true ≡ true → address_fits (match_prefix q) ≡ true
prefix_part_fits None fits = refl
prefix_part_fits (Some q) fits = fits

parts_fit : (side : Direction) (q : Option Prefix) → option_map_or prefix_fits q true ≡ true
    → (address_fits (source_part side (match_prefix q)) && address_fits (destination_part side (match_prefix q))) ≡ true
parts_fit Outbound q fits = prefix_part_fits q fits
parts_fit Inbound q fits = and_from _ _ (prefix_part_fits q fits) refl

forms_fit : PassForms addresses_fit prefix_fits
forms_fit = record {
  dropping = λ side q fits. parts_fit side q fits;
  flow = λ side q n fits is. parts_fit side q fits;
  answer = λ side q n fits is. parts_fit side q fits;
}

layout_addresses : (policy : FlowPolicy) → IsSite policy.site → AddressesFit (layout policy)
layout_addresses policy is =
    layout_passes addresses_fit prefix_fits forms_fit (λ q i fits. parts_fit Inbound q fits) policy is.services (network_fits (all_prefixes policy.site.hosts) is.hosts.networks)

-- The same for the chain of a host, for outbound or for inbound packets.
pub host_rules_addresses : (side : Direction) (policy : FlowPolicy) (i : ℕ) → IsSite policy.site → list_all addresses_fit (host_rules side policy i) ≡ true
host_rules_addresses side policy i is =
    host_rules_pass addresses_fit prefix_fits forms_fit side policy i is.services (network_fits (all_prefixes policy.site.hosts) is.hosts.networks)

-- 3. Its text is parsed back.

pub layout_writable : (policy : FlowPolicy) → IsSite policy.site → rule_count (layout policy) ≤ rule_limit → IsWritable (layout policy)
layout_writable policy is few =
    let hosts : length policy.site.hosts ≤ 256 = is.hosts.few in
    record {
      table = layout_table policy hosts;
      accepted = layout_accepted policy is.services hosts (omega (arith, few));
      acyclic = layout_no_loop policy is.services;
      addresses = layout_addresses policy is;
      parts = layout_rules_are policy is.services;
    }

-- 4. Its text is within the size limit of the parser: its chains have short names, and its rules match on one address, one service and one
-- state.

layout_name_short : (policy : FlowPolicy) (c : ℕ) → length policy.site.hosts ≤ 256 → length (name_of (layout policy) c) ≤ 7
layout_name_short policy zero few = omega arith
layout_name_short policy (suc zero) few = omega arith
layout_name_short policy (suc (suc zero)) few = omega arith
layout_name_short policy (suc (suc (suc i))) few = elim (cases_lt (suc (suc (suc i))) (length (layout policy))) [
  | inl within ↦
      let below = host_below policy i within in
      let there = chain_at policy 0 (length policy.site.hosts) i i (omega arith) below in
      let short : length (decimal i) ≤ 5 = length-decimal-le 5 i (omega arith) (omega arith) (omega arith) in
      omega (arith, ap length (ap name_in there), short)
  | inr past ↦ omega (arith, ap length (no_name (layout policy) (suc (suc (suc i))) past))
]

abbrev asks_at_most : ℕ → Rule → Bool
asks_at_most most rule = nat_le (asked rule) most

address_short : (side : Direction) (q : Option Prefix)
    → length (address_text (codes " -s ") (source_part side (match_prefix q))) + length (address_text (codes " -d ") (destination_part side (match_prefix q))) ≤ 22
address_short Outbound None = omega arith
address_short Outbound (Some q) = omega (arith, prefix_short q)
address_short Inbound None = omega arith
address_short Inbound (Some q) = omega (arith, prefix_short q)

-- A service without all ports has a protocol with ports.
chooses_ports : (named only : Bool) → (named || (only && false)) ≡ true → named ≡ true
chooses_ports true only is = refl
chooses_ports false true is = cc
chooses_ports false false is = cc

-- The matches of a rule for the service of a packet, or of an answer.
service_parts_short : (proto low high : ℕ) (all : Bool) → proto < 2 ^ 8 → nat_le low high ≡ true → nat_le high max_port ≡ true
    → (has_ports proto || ((proto == icmp) && all)) ≡ true
    → (length (service_text (Some (record { proto = proto; negated = false })) None (if all then None else Some (record { low = low; high = high; negated = false }))) ≤ 34)
    × (length (service_text (Some (record { proto = proto; negated = false })) (if all then None else Some (record { low = low; high = high; negated = false })) None) ≤ 34)
service_parts_short proto low high true small order fits is =
    (simp length-append (omega (arith, protocol_short proto small)), simp length-append (omega (arith, protocol_short proto small)))
service_parts_short proto low high false small order fits is =
    let name = counted_short proto (chooses_ports (has_ports proto) (proto == icmp) is) in
    let parts = length-append (decimal low) (if nat_lt low high then codes ":" ++ decimal high else []) in
    let ports = ports_short low high order fits in
    (simp length-append (omega (arith, name, ports, parts)), simp length-append (omega (arith, name, ports, parts)))

service_short : (s : Service) → is_service s ≡ true
    → (length (service_text (protocol_part (Some s)) None (port_part (Some s))) ≤ 34) × (length (service_text (protocol_part (Some s)) (port_part (Some s)) None) ≤ 34)
service_short s is =
    let parts = and_parts (nat_le s.low s.high) (nat_le s.high max_port && (has_ports s.proto || ((s.proto == icmp) && has_all_ports s))) is in
    let later = and_parts (nat_le s.high max_port) (has_ports s.proto || ((s.proto == icmp) && has_all_ports s)) parts.1 in
    service_parts_short s.proto s.low s.high (has_all_ports s) (below_256 s.proto (service_asked s is).protocol) parts.0 later.0 later.1
  where
    below_256 : (n : ℕ) → (nat_lt 0 n && nat_lt n (2 ^ 8)) ≡ true → n < 2 ^ 8
    below_256 n h = grind (arith, nat_tests)

flow_asks : (side : Direction) (q : Option Prefix) (n : Option Service) → is_narrowing n ≡ true → asks_at_most 91 (to_service side q n) ≡ true
flow_asks side q None is = at_most (asked (to_service side q None)) 91 (omega (arith, address_short side q))
flow_asks side q (Some s) is = at_most (asked (to_service side q (Some s))) 91 (omega (arith, address_short side q, (service_short s is).0))

answer_asks : (side : Direction) (q : Option Prefix) (n : Option Service) → is_narrowing n ≡ true → asks_at_most 91 (from_service side q n) ≡ true
answer_asks side q None is = at_most (asked (from_service side q None)) 91 (omega (arith, address_short side q))
answer_asks side q (Some s) is = at_most (asked (from_service side q (Some s))) 91 (omega (arith, address_short side q, (service_short s is).1))

plain_asks : (most : ℕ) → 22 ≤ most → (side : Direction) (q : Option Prefix) (target : Target) → asks_at_most most (match_peer side q None target) ≡ true
plain_asks most room side q target = at_most (asked (match_peer side q None target)) most (omega (arith, room, address_short side q))

forms_ask : PassForms (asks_at_most 91) anywhere
forms_ask = record {
  dropping = λ side q at. plain_asks 91 (omega arith) side q Drop;
  flow = λ side q n at is. flow_asks side q n is;
  answer = λ side q n at is. answer_asks side q n is;
}

-- Together with a short name.
takes : (take ask : ℕ) (name : List ℕ) (rules : List Rule) → length name + ask ≤ take → list_all (asks_at_most ask) rules ≡ true
    → list_all (takes_at_most take name) rules ≡ true
takes take ask name [] room all = refl
takes take ask name (r ∷ rs) room all =
    let parts = and_parts (asks_at_most ask r) (list_all (asks_at_most ask) rs) all in
    and_from _ _ (more (asked r) parts.0) (takes take ask name rs room parts.1)
  where
    more : (n : ℕ) → nat_le n ask ≡ true → nat_le (length name + n) take ≡ true
    more n h = grind (arith, nat_tests, room)

chains_take : (policy : FlowPolicy) (k n : ℕ) → AreServices policy.site.services → k + n ≤ 256
    → list_all (λ x. list_all (takes_at_most 95 x.name) x.rules) (map (host_chain policy) (range_with_len k n)) ≡ true
chains_take policy k zero are few = refl
chains_take policy k (suc n) are few =
    let short : length (decimal k) ≤ 3 = length-decimal-le 3 k (omega arith) (omega arith) (omega arith) in
    and_from _ _
    (takes 95 91 (host_chain_name k) (host_rules Outbound policy k) (omega (arith, short))
    (host_rules_pass (asks_at_most 91) anywhere forms_ask Outbound policy k are (all_anywhere (all_prefixes policy.site.hosts))))
    (chains_take policy (k + 1) n are (omega (arith, few)))

layout_takes : (policy : FlowPolicy) → IsSite policy.site → TakeAtMost 95 (layout policy)
layout_takes policy is =
    and_from _ _
    (takes 95 22 (codes "FORWARD") (forward_rules policy.site.hosts) (omega arith)
    (forward_rules_pass (asks_at_most 22) anywhere policy.site.hosts (λ q i below at. plain_asks 22 (omega arith) Inbound q (Jump (chain_of i))) (all_anywhere (all_prefixes policy.site.hosts))))
    (chains_take policy 0 (length policy.site.hosts) is.services (let few : length policy.site.hosts ≤ 256 = is.hosts.few in omega (arith, few)))

-- The text is within the size limit of the parser: at most 110 bytes per line.
pub layout_short : (policy : FlowPolicy) → IsSite policy.site → rule_count (layout policy) ≤ rule_limit → length (text (layout policy)) ≤ 67108864
layout_short policy is few =
    let hosts : length policy.site.hosts ≤ 256 = is.hosts.few in
    let chains : length (layout policy) ≤ 259 = omega (arith, length-chains_up_to policy (length policy.site.hosts), hosts) in
    let names : HasNames 7 (layout policy) = record { built_in = omega arith; names = λ c. layout_name_short policy c hosts } in
    omega (arith, text_short_by 95 7 (layout policy) (omega arith) names (layout_takes policy is), few, chains)
