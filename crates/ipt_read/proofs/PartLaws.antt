-- The protocol and port matches of a parsed rule line are valid.
use Rattle.std.proofs.Common.{◌≡◌, ℕ, ◌<◌, ◌≤◌, ◌^◌, Bool, true, false, ◌||◌, ◌&&◌, List, Option, Some, None, refl, sym, ap, ◌∙◌, subst, arith}
use Rattle.std.specs.Prelude.{codes, nat_le, is_some, unwrap_or}
use Rattle.std.proofs.lemmas.Bool.{and_parts}
use Rattle.std.proofs.lemmas.Bool.Decides.{nat_tests}
use Rattle.host_net.specs.Service.{max_port}
use Rattle.ipt_rules.specs.declared.rule.PortMatch.{PortMatch}
use Rattle.ipt_rules.specs.declared.rule.ProtoMatch.{ProtoMatch}
use Rattle.ipt_rules.specs.declared.rule.Rule.{Rule}
use Rattle.ipt_rules.specs.declared.rule.Target.TheVariants.{Count}
use Rattle.ipt_rules.specs.Chain.{Chain}
use Rattle.ipt_rules.specs.RuleParts.{names_ports}
use Rattle.ipt_rules.specs.inner.RuleParts.{is_protocol, are_ports, is_rule}
use Rattle.ipt_read.specs.declared.option.RuleOption.TheVariants.{Protocol, SourcePort, DestinationPort}
use Rattle.ipt_read.specs.Options.{PartialRule, empty_rule, in_front, Row, row_of, is_repeated_or_negated}
use Rattle.ipt_read.specs.inner.OptionSteps.{row}
use Rattle.ipt_read.specs.Grammar.{Stands, IsValue, source, destination, protocol, source_port, destination_port, states, conntrack_module, state_module, comment_module, own_module, target, jump, a_text, a_word, IsPiece, plain, turned, AreOptionWords, none_left, one_more, IsRuleLine}

-- 1. The matches of a rule.

-- Ports are matched only if their module is loaded, and it is loaded only if the protocol has ports.
pub record HasParts (asked : Option ProtoMatch) (ports : Bool) (from to : Option PortMatch) : Type 0 where
  pub proto : is_protocol asked ≡ true
  pub named : ports ≡ true → names_ports asked ≡ true
  pub sport : are_ports (names_ports asked) from ≡ true
  pub dport : are_ports (names_ports asked) to ≡ true

-- The same for a rule, with the module if it matches ports.
abbrev pub RuleHas : Option ProtoMatch → Option PortMatch → Option PortMatch → Type 0
RuleHas proto sport dport = HasParts proto (is_some sport || is_some dport) sport dport

ports_named : (named : Bool) (sport dport : Option PortMatch) → are_ports named sport ≡ true → are_ports named dport ≡ true → (is_some sport || is_some dport) ≡ true → named ≡ true
ports_named true sport dport s d asked = refl
ports_named false (Some part) dport s d asked = cc
ports_named false None (Some part) s d asked = cc
ports_named false None None s d asked = cc

pub rule_has : (r : Rule) → is_rule r ≡ true → RuleHas r.proto r.sport r.dport
rule_has r is =
    let parts = and_parts (is_protocol r.proto) (are_ports (names_ports r.proto) r.sport && are_ports (names_ports r.proto) r.dport) is in
    let both = and_parts (are_ports (names_ports r.proto) r.sport) (are_ports (names_ports r.proto) r.dport) parts.1 in
    record { proto = parts.0; named = ports_named (names_ports r.proto) r.sport r.dport both.0 both.1; sport = both.0; dport = both.1 }

-- 2. Partial rules.

abbrev GivesParts : PartialRule → Type 0
GivesParts given = HasParts given.rule.proto given.ports given.rule.sport given.rule.dport

-- Adding a protocol to a rule without one: no ports were matched yet.
no_ports : (o : Option PortMatch) (named : Bool) → are_ports false o ≡ true → are_ports named o ≡ true
no_ports None named h = refl
no_ports (Some part) named h = cc

is_protocol_by : (proto : ℕ) (negated : Bool) → 0 < proto → proto < 2 ^ 8 → is_protocol (Some (record { proto = proto; negated = negated })) ≡ true
is_protocol_by proto negated positive fits = grind (arith, nat_tests)

protocol_more : (old : Option ProtoMatch) (ports : Bool) (sport dport : Option PortMatch) (proto : ℕ) (negated : Bool) → is_some old ≡ false → 0 < proto → proto < 2 ^ 8 → HasParts old ports sport dport → HasParts (Some (record { proto = proto; negated = negated })) ports sport dport
protocol_more (Some part) ports sport dport proto negated none positive fits has = cc
protocol_more None ports sport dport proto negated none positive fits has = record {
  proto = is_protocol_by proto negated positive fits;
  named = λ e. let named : false ≡ true = has.named e in cc;
  sport = no_ports sport _ has.sport;
  dport = no_ports dport _ has.dport;
}

-- Adding ports, if the module is loaded.
are_ports_by : (named : Bool) (low high : ℕ) (negated : Bool) → named ≡ true → low ≤ high → high ≤ max_port → are_ports named (Some (record { low = low; high = high; negated = negated })) ≡ true
are_ports_by named low high negated is order fits =
    let first : nat_le low high ≡ true = grind (arith, nat_tests) in
    let last : nat_le high max_port ≡ true = grind (arith, nat_tests) in
    rw (is, first, last) refl

same_row : (r q : Row) → ◌≡◌ {A = Option Row} (Some r) (Some q) → r ≡ q
same_row r q h = cc

-- The facts about the row of an allowed option.
stands_here : (given : PartialRule) (negated : Bool) (name : List ℕ) (r q : Row) → row_of name ≡ Some r → Stands given negated name q → r.stands given ≡ true
stands_here given negated name r q is stands = subst (λ (p : Row). p.stands given ≡ true) (same_row q r (sym stands.named ∙ is)) stands.here

stands_free : (given : PartialRule) (negated : Bool) (name : List ℕ) (r q : Row) → row_of name ≡ Some r → Stands given negated name q → is_repeated_or_negated given negated r ≡ false
stands_free given negated name r q is stands = subst (λ (p : Row). is_repeated_or_negated given negated p ≡ false) (same_row q r (sym stands.named ∙ is)) stands.free

ports_fit : (given : PartialRule) (low high : ℕ) (negated : Bool) → (in_front given && given.ports) ≡ true → low ≤ high → high ≤ max_port → GivesParts given
    → are_ports (names_ports given.rule.proto) (Some (record { low = low; high = high; negated = negated })) ≡ true
ports_fit given low high negated here order fits gives =
    are_ports_by (names_ports given.rule.proto) low high negated (gives.named (and_parts (in_front given) given.ports here).1) order fits

value_gives : (chains : List Chain) (given now : PartialRule) (negated : Bool) (name : List ℕ) (ws : List (List ℕ)) (r : Row) → Stands given negated name r → IsValue chains given negated name ws now → GivesParts given → GivesParts now
value_gives chains given now negated name ws r stands (source p fits spelled) gives = gives
value_gives chains given now negated name ws r stands (destination p fits spelled) gives = gives
value_gives chains given now negated name ws r stands (protocol proto is) gives =
    protocol_more given.rule.proto given.ports given.rule.sport given.rule.dport proto negated (stands_free given negated (codes "-p") (row Protocol) r refl stands) is.positive is.fits gives
value_gives chains given now negated name ws r stands (source_port low high are) gives = record {
  proto = gives.proto;
  named = gives.named;
  sport = ports_fit given low high negated (stands_here given negated (codes "--sport") (row SourcePort) r refl stands) are.order are.fits gives;
  dport = gives.dport;
}
value_gives chains given now negated name ws r stands (destination_port low high are) gives = record {
  proto = gives.proto;
  named = gives.named;
  sport = gives.sport;
  dport = ports_fit given low high negated (stands_here given negated (codes "--dport") (row DestinationPort) r refl stands) are.order are.fits gives;
}
value_gives chains given now negated name ws r stands (states new established its list) gives = gives
value_gives chains given now negated name ws r stands conntrack_module gives = gives
value_gives chains given now negated name ws r stands state_module gives = gives
value_gives chains given now negated name ws r stands comment_module gives = gives
value_gives chains given now negated name ws r stands (own_module part said names) gives =
    record { proto = gives.proto; named = λ p. ap names_ports said ∙ names; sport = gives.sport; dport = gives.dport }
value_gives chains given now negated name ws r stands (target t there) gives = gives
value_gives chains given now negated name ws r stands (jump c none number up) gives = gives
value_gives chains given now negated name ws r stands (a_text its is) gives = gives
value_gives chains given now negated name ws r stands (a_word its) gives = gives

piece_gives : (chains : List Chain) (given now : PartialRule) (ws : List (List ℕ)) → IsPiece chains given ws now → GivesParts given → GivesParts now
piece_gives chains given now ws (plain {name = name} {row = r} {value = value} stands is) gives = value_gives chains given now false name value r stands is gives
piece_gives chains given now ws (turned {name = name} {row = r} {value = value} free stands is) gives = value_gives chains given now true name value r stands is gives

pieces_give : (chains : List Chain) (given last : PartialRule) (ws : List (List ℕ)) → AreOptionWords chains given ws last → GivesParts given → GivesParts last
pieces_give chains given last ws none_left gives = gives
pieces_give chains given last ws (one_more {now = now} {ws = front} {vs = rest} piece others) gives =
    pieces_give chains now last rest others (piece_gives chains given now front piece gives)

nothing_gives : GivesParts empty_rule
nothing_gives = record { proto = refl; named = λ e. cc; sport = refl; dport = refl }

given_is : (given : PartialRule) → GivesParts given → is_rule (record given.rule { target = unwrap_or given.target Count }) ≡ true
given_is given gives = rw (gives.proto, gives.sport, gives.dport) refl

-- 3. The matches of a parsed rule are valid.
pub line_is_rule : (chains : List Chain) (ws : List (List ℕ)) (c : ℕ) (r : Rule) → IsRuleLine chains ws c r → is_rule r ≡ true
line_is_rule chains ws c r line =
    ap is_rule line.same ∙ given_is line.given (pieces_give chains empty_rule line.given line.pieces line.fit nothing_gives)
