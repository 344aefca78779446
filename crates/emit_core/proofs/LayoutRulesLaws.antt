-- A property of every rule of the forms that a layout has is a property of each of its rules.
use Rattle.std.proofs.Common.{◌≡◌, ℕ, ◌+◌, ◌<◌, ◌≤◌, zero, suc, Bool, true, false, not, ◌&&◌, ◌||◌, ◌==◌, IsTrue, List, [], ◌∷◌, ◌++◌, Option, Some, None, length, map, refl, ◌∙◌, arith}
use Rattle.std.specs.Prelude.{if◌then◌else◌, nat_le}
use Rattle.std.specs.List.{flat_map, list_all, range_with_len}
use Rattle.std.specs.Option.{option_map_or}
use Rattle.std.proofs.lemmas.Bool.{and_from, and_parts}
use Rattle.std.proofs.lemmas.Bool.Decides.{nat_tests}
use Rattle.std.proofs.lemmas.List.Folds.{list_all-append}
use Rattle.host_net.specs.declared.prefix.Prefix.{Prefix}
use Rattle.host_net.specs.declared.service.Service.{Service}
use Rattle.host_net.specs.Host.{Host, rest_of}
use Rattle.host_net.specs.Hosts.{all_prefixes}
use Rattle.host_net.specs.Service.{service_matches, has_ports, has_all_ports, icmp, max_port}
use Rattle.host_net.specs.inner.Service.{is_service}
use Rattle.host_net.specs.inner.Services.{AreServices}
use Rattle.pkt_core.specs.FlowPolicy.{FlowPolicy}
use Rattle.ipt_rules.specs.declared.rule.Rule.{Rule}
use Rattle.ipt_rules.specs.declared.rule.Target.TheVariants.{Drop, Jump}
use Rattle.ipt_rules.specs.RuleParts.{names_ports}
use Rattle.ipt_rules.specs.inner.RuleParts.{is_protocol, are_ports, is_rule, AreRules}
use Rattle.emit_core.specs.declared.direction.Direction.{Direction}
use Rattle.emit_core.specs.declared.direction.Direction.TheVariants.{Outbound}
use Rattle.emit_core.specs.OtherStates.{HaveNoOtherState, has_no_other_state}
use Rattle.emit_core.specs.Layout.{for_each_prefix, match_peer, protocol_part, port_part, to_service, from_service, connects_unrestricted, accepts_flow, accepts_answers, accepts, drops, is_open, to_prefix, to_rest, host_rules, forward_rules, rest_jump, jump_from, from_source, chain_of, layout, host_chain}
use Rattle.emit_core.specs.Directions.{connects, other_direction, services_on, flow_on}
use Rattle.emit_core.proofs.OwnerLaws.{rest_below}

-- A service, or nothing.
abbrev pub is_narrowing : Option Service → Bool
is_narrowing n = option_map_or is_service n true

-- A rule of one of the three forms in host chains passes the test if its prefix, if it has one, satisfies `fits`, and its service, if it
-- has one, is valid.
pub record PassForms (test : Rule → Bool) (fits : Prefix → Bool) : Type 0 where
  pub dropping : (side : Direction) (q : Option Prefix) → option_map_or fits q true ≡ true → test (match_peer side q None Drop) ≡ true
  pub flow : (side : Direction) (q : Option Prefix) (n : Option Service) → option_map_or fits q true ≡ true → is_narrowing n ≡ true → test (to_service side q n) ≡ true
  pub answer : (side : Direction) (q : Option Prefix) (n : Option Service) → option_map_or fits q true ≡ true → is_narrowing n ≡ true → test (from_service side q n) ≡ true

-- 1. Lists of rules, by parts.

some_pass : (ss : List Service) → list_all is_service ss ≡ true → list_all is_narrowing (map (λ t. Some t) ss) ≡ true
some_pass [] all = refl
some_pass (s ∷ ss) all = let parts = and_parts (is_service s) (list_all is_service ss) all in and_from _ _ parts.0 (some_pass ss parts.1)

narrowings_pass : (ss : List Service) → list_all is_service ss ≡ true → list_all is_narrowing (service_matches ss) ≡ true
narrowings_pass [] all = refl
narrowings_pass (s ∷ ss) all = some_pass (s ∷ ss) all

map_pass : (test : Rule → Bool) (rule : Option Service → Rule) → ((n : Option Service) → is_narrowing n ≡ true → test (rule n) ≡ true)
    → (ns : List (Option Service)) → list_all is_narrowing ns ≡ true → list_all test (map rule ns) ≡ true
map_pass test rule each [] all = refl
map_pass test rule each (n ∷ ns) all =
    let parts = and_parts (is_narrowing n) (list_all is_narrowing ns) all in and_from _ _ (each n parts.0) (map_pass test rule each ns parts.1)

pub if_pass : (test : Rule → Bool) (b : Bool) (rules : List Rule) → list_all test rules ≡ true → list_all test (if b then rules else []) ≡ true
if_pass test true rules all = all
if_pass test false rules all = refl

flat_pass : (test : Rule → Bool) (fits : Prefix → Bool) (written : Prefix → List Rule) → ((q : Prefix) → fits q ≡ true → list_all test (written q) ≡ true)
    → (qs : List Prefix) → list_all fits qs ≡ true → list_all test (flat_map written qs) ≡ true
flat_pass test fits written each [] all = refl
flat_pass test fits written each (q ∷ qs) all =
    let parts = and_parts (fits q) (list_all fits qs) all in
    list_all-append test (written q) (flat_map written qs) ∙ and_from _ _ (each q parts.0) (flat_pass test fits written each qs parts.1)

each_pass : (test : Rule → Bool) (fits : Prefix → Bool) (written : ℕ → Prefix → List Rule) (n : ℕ)
    → ((j : ℕ) (q : Prefix) → j < n → fits q ≡ true → list_all test (written j q) ≡ true)
    → (k : ℕ) (hs : List Host) → k + length hs ≤ n → list_all fits (all_prefixes hs) ≡ true → list_all test (for_each_prefix written k hs) ≡ true
each_pass test fits written n each k [] within all = refl
each_pass test fits written n each k (h ∷ hs) within all =
    let parts = and_parts (list_all fits h.prefixes) (list_all fits (all_prefixes hs)) (list_all-apart fits h.prefixes (all_prefixes hs) all) in
    list_all-append test (flat_map (written k) h.prefixes) (for_each_prefix written (k + 1) hs)
    ∙ and_from _ _ (flat_pass test fits (written k) (λ q. each k q (omega arith)) h.prefixes parts.0) (each_pass test fits written n each (k + 1) hs (omega arith) parts.1)
  where
    list_all-apart : (f : Prefix → Bool) (xs ys : List Prefix) → list_all f (xs ++ ys) ≡ true → (list_all f xs && list_all f ys) ≡ true
    list_all-apart f xs ys h = rw (← list_all-append f xs ys) h

-- 2. The rules of a layout.

rest_jump_pass : (test : Rule → Bool) (n : ℕ) → ((i : ℕ) → i < n → test (from_source None (Jump (chain_of i))) ≡ true) → (rest : Option ℕ)
    → ((r : ℕ) → rest ≡ Some r → r < n) → list_all test (rest_jump rest) ≡ true
rest_jump_pass test n form None below = refl
rest_jump_pass test n form (Some r) below = and_from _ _ (form r (below r refl)) refl

pub forward_rules_pass : (test : Rule → Bool) (fits : Prefix → Bool) (hosts : List Host)
    → ((q : Option Prefix) (i : ℕ) → i < length hosts → option_map_or fits q true ≡ true → test (from_source q (Jump (chain_of i))) ≡ true)
    → list_all fits (all_prefixes hosts) ≡ true → list_all test (forward_rules hosts) ≡ true
forward_rules_pass test fits hosts form all =
    list_all-append test (for_each_prefix jump_from 0 hosts) (rest_jump (rest_of hosts))
    ∙ and_from _ _
    (each_pass test fits jump_from (length hosts) (λ i q below at. and_from _ _ (form (Some q) i below at) refl) 0 hosts (omega arith) all)
    (rest_jump_pass test (length hosts) (λ i below. form None i below refl) (rest_of hosts) (rest_below hosts))

module _ (test : Rule → Bool) (fits : Prefix → Bool) (forms : PassForms test fits) where
  accepts_pass : (side : Direction) (policy : FlowPolicy) (i j : ℕ) (q : Option Prefix) → AreServices policy.site.services → option_map_or fits q true ≡ true
      → list_all test (accepts side policy i j q) ≡ true
  accepts_pass side policy i j q are at =
      let there = services_on side policy.site.services i j in
      let back = services_on (other_direction side) policy.site.services i j in
      let flows : list_all is_narrowing (service_matches there) ≡ true = narrowings_pass there (are.valid (flow_on side i j).from (flow_on side i j).to) in
      let answers : list_all is_narrowing (service_matches back) ≡ true =
      narrowings_pass back (are.valid (flow_on (other_direction side) i j).from (flow_on (other_direction side) i j).to) in
      list_all-append test (accepts_flow side policy i j q) (accepts_answers side policy i j q)
      ∙ and_from _ _
      (if_pass test (connects side policy.permitted i j) (map (to_service side q) (service_matches there))
      (map_pass test (to_service side q) (λ n is. forms.flow side q n at is) (service_matches there) flows))
      (if_pass test (connects (other_direction side) policy.stateful i j && not (connects_unrestricted side policy i j)) (map (from_service side q) (service_matches back))
      (map_pass test (from_service side q) (λ n is. forms.answer side q n at is) (service_matches back) answers))

  to_prefix_pass : (side : Direction) (policy : FlowPolicy) (i : ℕ) (rest : Option ℕ) → AreServices policy.site.services → (j : ℕ) (q : Prefix) → fits q ≡ true
      → list_all test (to_prefix side policy i rest j q) ≡ true
  to_prefix_pass side policy i rest are j q at =
      list_all-append test (accepts side policy i j (Some q)) (drops side policy i rest j q)
      ∙ and_from _ _ (accepts_pass side policy i j (Some q) are at)
      (if_pass test (is_open side policy i rest && not (connects_unrestricted side policy i j)) (match_peer side (Some q) None Drop ∷ [])
      (and_from _ _ (forms.dropping side (Some q) at) refl))

  to_rest_pass : (side : Direction) (policy : FlowPolicy) (i : ℕ) (rest : Option ℕ) → AreServices policy.site.services
      → list_all test (to_rest side policy i rest) ≡ true
  to_rest_pass side policy i None are = refl
  to_rest_pass side policy i (Some r) are = accepts_pass side policy i r None are refl

  pub host_rules_pass : (side : Direction) (policy : FlowPolicy) (i : ℕ) → AreServices policy.site.services → list_all fits (all_prefixes policy.site.hosts) ≡ true
      → list_all test (host_rules side policy i) ≡ true
  host_rules_pass side policy i are all =
      let rest = rest_of policy.site.hosts in
      list_all-append test (for_each_prefix (to_prefix side policy i rest) 0 policy.site.hosts) (to_rest side policy i rest ++ match_peer side None None Drop ∷ [])
      ∙ and_from _ _ (each_pass test fits (to_prefix side policy i rest) (length policy.site.hosts) (λ j q below at. to_prefix_pass side policy i rest are j q at) 0 policy.site.hosts (omega arith) all)
      (list_all-append test (to_rest side policy i rest) (match_peer side None None Drop ∷ [])
      ∙ and_from _ _ (to_rest_pass side policy i rest are) (and_from _ _ (forms.dropping side None refl) refl))

  chains_pass : (policy : FlowPolicy) (k n : ℕ) → AreServices policy.site.services → list_all fits (all_prefixes policy.site.hosts) ≡ true
      → list_all (λ x. list_all test x.rules) (map (host_chain policy) (range_with_len k n)) ≡ true
  chains_pass policy k zero are all = refl
  chains_pass policy k (suc n) are all = and_from _ _ (host_rules_pass Outbound policy k are all) (chains_pass policy (k + 1) n are all)

  pub layout_passes : ((q : Option Prefix) (i : ℕ) → option_map_or fits q true ≡ true → test (from_source q (Jump (chain_of i))) ≡ true)
      → (policy : FlowPolicy) → AreServices policy.site.services → list_all fits (all_prefixes policy.site.hosts) ≡ true
      → IsTrue (list_all (λ x. list_all test x.rules) (layout policy))
  layout_passes jump policy are all =
      and_from _ _ (forward_rules_pass test fits policy.site.hosts (λ q i below at. jump q i at) all) (chains_pass policy 0 (length policy.site.hosts) are all)

-- 3. Their protocol and port matches are valid, at every prefix.

abbrev pub anywhere : Prefix → Bool
anywhere q = true

pub all_anywhere : (qs : List Prefix) → list_all anywhere qs ≡ true
all_anywhere [] = refl
all_anywhere (q ∷ qs) = all_anywhere qs

-- A service has a protocol, and a valid port range unless it has all ports.
pub record IsAsked (s : Service) : Type 0 where
  pub protocol : is_protocol (protocol_part (Some s)) ≡ true
  pub ports : are_ports (names_ports (protocol_part (Some s))) (port_part (Some s)) ≡ true

protocol_asked : (proto : ℕ) (all : Bool) → (has_ports proto || ((proto == icmp) && all)) ≡ true → is_protocol (Some (record { proto = proto; negated = false })) ≡ true
protocol_asked proto all is = grind (arith, nat_tests)

ports_asked : (low high : ℕ) (named all : Bool) (icmp_only : Bool) → nat_le low high ≡ true → nat_le high max_port ≡ true → (named || (icmp_only && all)) ≡ true
    → are_ports named (if all then None else Some (record { low = low; high = high; negated = false })) ≡ true
ports_asked low high named true only order last is = refl
ports_asked low high true false only order last is = and_from _ _ order last
ports_asked low high false false true order last is = cc
ports_asked low high false false false order last is = cc

pub service_asked : (s : Service) → is_service s ≡ true → IsAsked s
service_asked s is =
    let parts = and_parts (nat_le s.low s.high) (nat_le s.high max_port && (has_ports s.proto || ((s.proto == icmp) && has_all_ports s))) is in
    let later = and_parts (nat_le s.high max_port) (has_ports s.proto || ((s.proto == icmp) && has_all_ports s)) parts.1 in
    record {
      protocol = protocol_asked s.proto (has_all_ports s) later.1;
      ports = ports_asked s.low s.high (has_ports s.proto) (has_all_ports s) (s.proto == icmp) parts.0 later.0 later.1;
    }

flow_is_rule : (side : Direction) (q : Option Prefix) (n : Option Service) → option_map_or anywhere q true ≡ true → is_narrowing n ≡ true → is_rule (to_service side q n) ≡ true
flow_is_rule side q None at is = refl
flow_is_rule side q (Some s) at is = let asked = service_asked s is in and_from _ _ asked.protocol (and_from _ _ refl asked.ports)

answer_is_rule : (side : Direction) (q : Option Prefix) (n : Option Service) → option_map_or anywhere q true ≡ true → is_narrowing n ≡ true → is_rule (from_service side q n) ≡ true
answer_is_rule side q None at is = refl
answer_is_rule side q (Some s) at is = let asked = service_asked s is in and_from _ _ asked.protocol (and_from _ _ asked.ports refl)

forms_are_rules : PassForms is_rule anywhere
forms_are_rules = record { dropping = λ side q at. refl; flow = flow_is_rule; answer = answer_is_rule }

pub host_rules_are : (side : Direction) (policy : FlowPolicy) (i : ℕ) → AreServices policy.site.services → list_all is_rule (host_rules side policy i) ≡ true
host_rules_are side policy i are = host_rules_pass is_rule anywhere forms_are_rules side policy i are (all_anywhere (all_prefixes policy.site.hosts))

pub forward_rules_are : (hosts : List Host) → list_all is_rule (forward_rules hosts) ≡ true
forward_rules_are hosts = forward_rules_pass is_rule anywhere hosts (λ q i below at. refl) (all_anywhere (all_prefixes hosts))

pub layout_rules_are : (policy : FlowPolicy) → AreServices policy.site.services → AreRules (layout policy)
layout_rules_are policy are = layout_passes is_rule anywhere forms_are_rules (λ q i at. refl) policy are (all_anywhere (all_prefixes policy.site.hosts))

-- 4. They match no state besides ESTABLISHED.

forms_have_no_other_state : PassForms has_no_other_state anywhere
forms_have_no_other_state = record { dropping = λ side q at. refl; flow = λ side q n at is. refl; answer = λ side q n at is. refl }

pub host_rules_no_other_state : (side : Direction) (policy : FlowPolicy) (i : ℕ) → AreServices policy.site.services → list_all has_no_other_state (host_rules side policy i) ≡ true
host_rules_no_other_state side policy i are =
    host_rules_pass has_no_other_state anywhere forms_have_no_other_state side policy i are (all_anywhere (all_prefixes policy.site.hosts))

pub layout_no_other_state : (policy : FlowPolicy) → AreServices policy.site.services → HaveNoOtherState (layout policy)
layout_no_other_state policy are =
    layout_passes has_no_other_state anywhere forms_have_no_other_state (λ q i at. refl) policy are (all_anywhere (all_prefixes policy.site.hosts))
