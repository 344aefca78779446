-- Lemmas on formatted rule lines: the tokens of a line are options that yield the rule.
use Rattle.std.proofs.Common.{◌≡◌, ℕ, ◌<◌, ◌≤◌, ◌^◌, Bool, true, false, ◌||◌, List, [], ◌∷◌, ◌++◌, append-nil, append_assoc, Option, Some, None, inl, inr, refl, sym, subst, arith}
use Rattle.std.specs.Prelude.{codes, bytes_eq, decimal, nat_lt, is_some, unwrap_or}
use Rattle.std.proofs.lemmas.Bool.{or_left, or_right, or_parts}
use Rattle.std.proofs.lemmas.Bool.Decides.{nat_tests}
use Rattle.text_core.proofs.StepsLaws.{split_bool}
use Rattle.host_net.specs.Prefix.{prefix_text}
use Rattle.host_net.specs.Service.{max_port}
use Rattle.host_net.specs.ServiceText.{protocol_text}
use Rattle.ipt_rules.specs.declared.rule.AddrMatch.{AddrMatch}
use Rattle.ipt_rules.specs.declared.rule.PortMatch.{PortMatch}
use Rattle.ipt_rules.specs.declared.rule.ProtoMatch.{ProtoMatch}
use Rattle.ipt_rules.specs.declared.rule.StateMatch.{StateMatch}
use Rattle.ipt_rules.specs.declared.rule.Rule.{Rule}
use Rattle.ipt_rules.specs.declared.rule.Target.{Target}
use Rattle.ipt_rules.specs.declared.rule.Target.TheVariants.{Accept, Drop, Reject, Return, Count, Jump}
use Rattle.ipt_rules.specs.Chain.{Chain, name_of, number_of}
use Rattle.ipt_rules.specs.Name.{is_reserved}
use Rattle.ipt_rules.specs.RuleParts.{names_ports}
use Rattle.ipt_rules.specs.inner.RuleParts.{is_protocol, are_ports, is_rule}
use Rattle.ipt_rules.specs.Text.{ports_text, states_text}
use Rattle.ipt_read.proofs.FineRulesLaws.{AddressFits}
use Rattle.ipt_read.specs.declared.option.RuleOption.TheVariants.{Source, Destination, Protocol, SourcePort, DestinationPort, Module, CtState, Jump as JumpOption}
use Rattle.ipt_read.specs.Options.{PartialRule, empty_rule, Row, named_target}
use Rattle.ipt_read.specs.Values.{is_state, IsStateList}
use Rattle.ipt_read.specs.ServiceValues.{IsProtocolWord, ArePortsWord}
use Rattle.ipt_read.specs.inner.OptionSteps.{row}
use Rattle.ipt_read.specs.Grammar.{Stands, IsValue, source, destination, protocol, source_port, destination_port, states, conntrack_module, own_module, target, jump, plain, turned, AreOptionWords, none_left, one_more, IsRuleLine}
use Rattle.ipt_read.proofs.PartLaws.{RuleHas, rule_has}
use Rattle.ipt_read.specs.inner.WrittenWords.{bang_words, address_words, protocol_words, module_words, port_words, service_words, state_words, target_words, rule_pieces, rule_words}

-- An option with `!` or without it.
piece_by_sign : (chains : List Chain) (given now last : PartialRule) (r : Row) (negated : Bool) (name : List ℕ) (value rest : List (List ℕ)) → given.target ≡ None → Stands given negated name r → IsValue chains given negated name value now → AreOptionWords chains now rest last → AreOptionWords chains given ((bang_words negated ++ (name ∷ value)) ++ rest) last
piece_by_sign chains given now last r true name value rest free stands is others = one_more (turned free stands is) others
piece_by_sign chains given now last r false name value rest free stands is others = one_more (plain stands is) others

-- Addresses.
abbrev with_source : PartialRule → Option AddrMatch → PartialRule
with_source given o = record given { rule = record given.rule { src = o }; target = None }

source_pieces : (chains : List Chain) (given last : PartialRule) (o : Option AddrMatch) (rest : List (List ℕ)) → AddressFits o → AreOptionWords chains (with_source given o) rest last → AreOptionWords chains (with_source given None) (address_words (codes "-s") o ++ rest) last
source_pieces chains given last None rest fits others = others
source_pieces chains given last (Some part) rest fits others =
    piece_by_sign chains (with_source given None) (with_source given (Some part)) last (row Source) part.negated (codes "-s") (prefix_text part.prefix ∷ []) rest refl
    (record { named = refl; here = refl; free = refl }) (source part.prefix fits (inl refl)) others

abbrev with_destination : PartialRule → Option AddrMatch → PartialRule
with_destination given o = record given { rule = record given.rule { dst = o }; target = None }

destination_pieces : (chains : List Chain) (given last : PartialRule) (o : Option AddrMatch) (rest : List (List ℕ)) → AddressFits o → AreOptionWords chains (with_destination given o) rest last → AreOptionWords chains (with_destination given None) (address_words (codes "-d") o ++ rest) last
destination_pieces chains given last None rest fits others = others
destination_pieces chains given last (Some part) rest fits others =
    piece_by_sign chains (with_destination given None) (with_destination given (Some part)) last (row Destination) part.negated (codes "-d") (prefix_text part.prefix ∷ []) rest refl
    (record { named = refl; here = refl; free = refl }) (destination part.prefix fits (inl refl)) others

-- A protocol.
protocol_word : (part : ProtoMatch) → is_protocol (Some part) ≡ true → IsProtocolWord (protocol_text part.proto) part.proto
protocol_word part is = record { positive = positive; fits = fits; written = inl refl }
  where
    positive : 0 < part.proto
    positive = grind (arith, nat_tests)

    fits : part.proto < 2 ^ 8
    fits = grind (arith, nat_tests)

abbrev with_protocol : PartialRule → Option ProtoMatch → PartialRule
with_protocol given o = record given { rule = record given.rule { proto = o }; target = None }

protocol_pieces : (chains : List Chain) (given last : PartialRule) (o : Option ProtoMatch) (rest : List (List ℕ)) → is_protocol o ≡ true → AreOptionWords chains (with_protocol given o) rest last → AreOptionWords chains (with_protocol given None) (protocol_words o ++ rest) last
protocol_pieces chains given last None rest is others = others
protocol_pieces chains given last (Some part) rest is others =
    piece_by_sign chains (with_protocol given None) (with_protocol given (Some part)) last (row Protocol) part.negated (codes "-p") (protocol_text part.proto ∷ []) rest refl
    (record { named = refl; here = refl; free = refl }) (protocol part.proto (protocol_word part is)) others

-- The module of a protocol that has ports.
abbrev with_module_of : PartialRule → Option ProtoMatch → Bool → PartialRule
with_module_of given o named = record given { rule = record given.rule { proto = o }; ports = named; target = None }

module_pieces : (chains : List Chain) (given last : PartialRule) (o : Option ProtoMatch) (ports : Bool) (rest : List (List ℕ)) → (ports ≡ true → names_ports o ≡ true) → AreOptionWords chains (with_module_of given o ports) rest last → AreOptionWords chains (with_module_of given o false) (module_words o ports ++ rest) last
module_pieces chains given last None true rest named others = let e : false ≡ true = named refl in cc
module_pieces chains given last None false rest named others = others
module_pieces chains given last (Some part) false rest named others = others
module_pieces chains given last (Some part) true rest named others =
    one_more (plain {row = row Module} (record { named = refl; here = refl; free = refl }) (own_module part refl (named refl))) others

-- Ports.
ports_word : (low high : ℕ) → low ≤ high → high ≤ max_port → ArePortsWord (ports_text low high) low high
ports_word low high order fits = split_bool (nat_lt low high) several one
  where
    several : nat_lt low high ≡ true → ArePortsWord (ports_text low high) low high
    several below = record { order = order; fits = fits; written = inr (inl (rw below refl)) }

    alike : nat_lt low high ≡ false → low ≡ high
    alike above = grind (arith, nat_tests)

    one : nat_lt low high ≡ false → ArePortsWord (ports_text low high) low high
    one above = record { order = order; fits = fits; written = inl (rw above (append-nil (decimal low)), alike above) }

ports_fit : (named : Bool) (part : PortMatch) → are_ports named (Some part) ≡ true → ArePortsWord (ports_text part.low part.high) part.low part.high
ports_fit named part are = ports_word part.low part.high order fits
  where
    order : part.low ≤ part.high
    order = grind (arith, nat_tests)

    fits : part.high ≤ max_port
    fits = grind (arith, nat_tests)

abbrev with_source_port : PartialRule → Bool → Option PortMatch → PartialRule
with_source_port given ports o = record given { rule = record given.rule { sport = o }; ports = ports; target = None }

source_port_pieces : (chains : List Chain) (given last : PartialRule) (named ports : Bool) (o : Option PortMatch) (rest : List (List ℕ)) → are_ports named o ≡ true → (is_some o ≡ true → ports ≡ true) → AreOptionWords chains (with_source_port given ports o) rest last → AreOptionWords chains (with_source_port given ports None) (port_words (codes "--sport") o ++ rest) last
source_port_pieces chains given last named ports None rest are there others = others
source_port_pieces chains given last named ports (Some part) rest are there others =
    piece_by_sign chains (with_source_port given ports None) (with_source_port given ports (Some part)) last (row SourcePort) part.negated (codes "--sport") (ports_text part.low part.high ∷ []) rest refl
    (record { named = refl; here = there refl; free = refl }) (source_port part.low part.high (ports_fit named part are)) others

abbrev with_destination_port : PartialRule → Bool → Option PortMatch → PartialRule
with_destination_port given ports o = record given { rule = record given.rule { dport = o }; ports = ports; target = None }

destination_port_pieces : (chains : List Chain) (given last : PartialRule) (named ports : Bool) (o : Option PortMatch) (rest : List (List ℕ)) → are_ports named o ≡ true → (is_some o ≡ true → ports ≡ true) → AreOptionWords chains (with_destination_port given ports o) rest last → AreOptionWords chains (with_destination_port given ports None) (port_words (codes "--dport") o ++ rest) last
destination_port_pieces chains given last named ports None rest are there others = others
destination_port_pieces chains given last named ports (Some part) rest are there others =
    piece_by_sign chains (with_destination_port given ports None) (with_destination_port given ports (Some part)) last (row DestinationPort) part.negated (codes "--dport") (ports_text part.low part.high ∷ []) rest refl
    (record { named = refl; here = there refl; free = refl }) (destination_port part.low part.high (ports_fit named part are)) others

-- A protocol and its ports.
abbrev with_service_of : PartialRule → Option ProtoMatch → Bool → Option PortMatch → Option PortMatch → PartialRule
with_service_of given proto ports sport dport = record given { rule = record given.rule { proto = proto; sport = sport; dport = dport }; ports = ports; target = None }

service_pieces : (chains : List Chain) (given last : PartialRule) (r : Rule) (rest : List (List ℕ)) → RuleHas r.proto r.sport r.dport → AreOptionWords chains (with_service_of given r.proto (is_some r.sport || is_some r.dport) r.sport r.dport) rest last → AreOptionWords chains (with_service_of given None false None None) (service_words r.proto r.sport r.dport ++ rest) last
service_pieces chains given last r rest has others =
    subst (λ (ws : List (List ℕ)). AreOptionWords chains (with_service_of given None false None None) ws last)
    (four_joined (protocol_words r.proto) (module_words r.proto asks_ports) (port_words (codes "--sport") r.sport) (port_words (codes "--dport") r.dport) rest)
    (protocol_pieces chains (with_service_of given None false None None) last r.proto _ has.proto
    (module_pieces chains (with_service_of given None false None None) last r.proto asks_ports _ has.named
    (source_port_pieces chains (with_service_of given r.proto asks_ports None None) last (names_ports r.proto) asks_ports r.sport _ has.sport (or_left (is_some r.sport) (is_some r.dport))
    (destination_port_pieces chains (with_service_of given r.proto asks_ports r.sport None) last (names_ports r.proto) asks_ports r.dport rest has.dport (or_right (is_some r.sport) (is_some r.dport)) others))))
  where
    asks_ports : Bool
    asks_ports = is_some r.sport || is_some r.dport

    four_joined : (a b c d e : List (List ℕ)) → a ++ (b ++ (c ++ (d ++ e))) ≡ (a ++ (b ++ (c ++ d))) ++ e
    four_joined a b c d e = simp append_assoc

-- A state.
states_listed : (new established : Bool) → IsStateList (states_text new established) new established
unfolding is_state
states_listed true true = record { each = refl; has_new = refl; has_established = refl }
states_listed true false = record { each = refl; has_new = refl; has_established = refl }
states_listed false true = record { each = refl; has_new = refl; has_established = refl }
states_listed false false = record { each = refl; has_new = refl; has_established = refl }

-- The module is loaded if a state is matched.
abbrev asks : Option StateMatch → Bool
asks None = false
asks (Some part) = true

abbrev with_state_of : PartialRule → Bool → Option StateMatch → PartialRule
with_state_of given named o = record given { rule = record given.rule { state = o }; conntrack = named; target = None }

state_pieces : (chains : List Chain) (given last : PartialRule) (o : Option StateMatch) (rest : List (List ℕ)) → AreOptionWords chains (with_state_of given (asks o) o) rest last → AreOptionWords chains (with_state_of given false None) (state_words o ++ rest) last
state_pieces chains given last None rest others = others
state_pieces chains given last (Some part) rest others =
    one_more (plain {row = row Module} (record { named = refl; here = refl; free = refl }) conntrack_module)
    (piece_by_sign chains (with_state_of given true None) (with_state_of given true (Some part)) last (row CtState) part.negated (codes "--ctstate") (states_text part.new part.established ∷ []) rest refl
    (record { named = refl; here = refl; free = refl }) (states part.new part.established (inl refl) (states_listed part.new part.established)) others)

-- A formatted target is parsed back: the chain of a jump is a user chain that is found by its name.
abbrev pub IsFound : List Chain → List Chain → Target → Type 0
IsFound said chains (Jump c) = (number_of said (name_of chains c) ≡ Some c) × (3 ≤ c) × (is_reserved (name_of chains c) ≡ false)
IsFound said chains _ = Unit {0}

abbrev behind_target : Target → Option Target
behind_target Count = None
behind_target t = Some t

record IsNoTarget (name : List ℕ) : Type 0 where
  accept : bytes_eq name (codes "ACCEPT") ≡ false
  drops : bytes_eq name (codes "DROP") ≡ false
  reject : bytes_eq name (codes "REJECT") ≡ false
  returns : bytes_eq name (codes "RETURN") ≡ false
  log : bytes_eq name (codes "LOG") ≡ false

no_target : (name : List ℕ) → is_reserved name ≡ false → IsNoTarget name
unfolding is_reserved
no_target name h =
    let a = or_parts (bytes_eq name (codes "INPUT")) _ h in
    let b = or_parts (bytes_eq name (codes "FORWARD")) _ a.1 in
    let d = or_parts (bytes_eq name (codes "OUTPUT")) _ b.1 in
    let e = or_parts (bytes_eq name (codes "ACCEPT")) _ d.1 in
    let f = or_parts (bytes_eq name (codes "DROP")) _ e.1 in
    let g = or_parts (bytes_eq name (codes "REJECT")) _ f.1 in
    let i = or_parts (bytes_eq name (codes "RETURN")) _ g.1 in
    let j = or_parts (bytes_eq name (codes "LOG")) _ i.1 in
    record { accept = e.0; drops = f.0; reject = g.0; returns = i.0; log = j.0 }

not_named : (name : List ℕ) → is_reserved name ≡ false → named_target name ≡ None
not_named name free = let none = no_target name free in rw (none.accept, none.drops, none.reject, none.returns, none.log) refl

abbrev with_target : PartialRule → Option Target → PartialRule
with_target given o = record given { target = o }

target_piece : (said : List Chain) (given : PartialRule) (word : List ℕ) (t : Target) → IsValue said (with_target given None) false (codes "-j") (word ∷ []) (with_target given (Some t)) → AreOptionWords said (with_target given None) (codes "-j" ∷ word ∷ []) (with_target given (Some t))
target_piece said given word t is = one_more (plain {row = row JumpOption} (record { named = refl; here = refl; free = refl }) is) none_left

target_pieces : (said chains : List Chain) (given : PartialRule) (t : Target) → IsFound said chains t → AreOptionWords said (with_target given None) (target_words chains t) (with_target given (behind_target t))
target_pieces said chains given Accept found = target_piece said given (codes "ACCEPT") Accept (target Accept refl)
target_pieces said chains given Drop found = target_piece said given (codes "DROP") Drop (target Drop refl)
target_pieces said chains given Reject found = target_piece said given (codes "REJECT") Reject (target Reject refl)
target_pieces said chains given Return found = target_piece said given (codes "RETURN") Return (target Return refl)
target_pieces said chains given Count found = none_left
target_pieces said chains given (Jump c) found = target_piece said given (name_of chains c) (Jump c) (jump c (not_named (name_of chains c) found.2) found.0 found.1)

target_back : (t : Target) → unwrap_or (behind_target t) Count ≡ t
target_back Accept = refl
target_back Drop = refl
target_back Reject = refl
target_back Return = refl
target_back Count = refl
target_back (Jump c) = refl

-- The partial rule after each part of a formatted rule.
abbrev with_addresses : Rule → PartialRule
with_addresses r = with_destination (with_source empty_rule r.src) r.dst

abbrev with_service : Rule → PartialRule
with_service r = with_service_of (with_addresses r) r.proto (is_some r.sport || is_some r.dport) r.sport r.dport

abbrev with_state : Rule → PartialRule
with_state r = with_state_of (with_service r) (asks r.state) r.state

-- A formatted rule is a rule line that yields the rule.
pub rule_words_read : (said chains : List Chain) (name : List ℕ) (c : ℕ) (r : Rule) → number_of said name ≡ Some c → AddressFits r.src → AddressFits r.dst → IsFound said chains r.target → is_rule r ≡ true → IsRuleLine said (rule_words chains name r) c r
rule_words_read said chains name c r number src dst found is = record {
  name = name;
  pieces = rule_pieces chains r;
  given = with_target (with_state r) (behind_target r.target);
  written = ([], inl refl, refl);
  number = number;
  fit = source_pieces said empty_rule _ r.src _ src
      (destination_pieces said (with_source empty_rule r.src) _ r.dst _ dst
      (service_pieces said (with_addresses r) _ r _ (rule_has r is)
      (state_pieces said (with_service r) _ r.state _ (target_pieces said chains (with_state r) r.target found))));
  same = λ i. record {
    src = r.src;
    dst = r.dst;
    proto = r.proto;
    sport = r.sport;
    dport = r.dport;
    state = r.state;
    target = sym (target_back r.target) i;
  };
}
