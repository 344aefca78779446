-- The length of the text of a table. A line has at most 8 bytes, the name of a chain with the matches of its rule, and the name
-- of another chain. Hence a line has at most 283 bytes for every table.
use Rattle.std.proofs.Common.{◌≡◌, ◌⊎◌, ◌==◌, ◌^◌, IsTrue, sym, ℕ, zero, suc, ◌+◌, ◌*◌, ◌<◌, ◌≤◌, ◌∙◌, ap, subst, refl, inl, inr, Bool, true, false, List, [], ◌∷◌, ◌++◌, Option, Some, None, length, map, arith, length-append}
use Rattle.std.specs.Prelude.{◌&&◌, not, nat_lt, nat_le, if◌then◌else◌, codes, decimal}
use Rattle.std.specs.List.{flat_map, concat, list_all}
use Rattle.std.proofs.lemmas.List.{length-map}
use Rattle.std.proofs.lemmas.Fmt.{length-decimal-le}
use Rattle.std.proofs.lemmas.Bool.{cases_lt, and_parts, and_from}
use Rattle.std.proofs.lemmas.Bool.Decides.{nat_tests}
use Rattle.host_net.proofs.PrefixTextLaws.{prefix_short}
use Rattle.host_net.specs.Service.{icmp, tcp, udp, max_port, has_ports}
use Rattle.host_net.specs.ServiceText.{protocol_text}
use Rattle.ipt_rules.specs.declared.rule.AddrMatch.{AddrMatch}
use Rattle.ipt_rules.specs.declared.rule.PortMatch.{PortMatch}
use Rattle.ipt_rules.specs.declared.rule.ProtoMatch.{ProtoMatch}
use Rattle.ipt_rules.specs.declared.rule.StateMatch.{StateMatch}
use Rattle.ipt_rules.specs.declared.rule.Rule.{Rule}
use Rattle.ipt_rules.specs.declared.rule.Policy.{Policy}
use Rattle.ipt_rules.specs.declared.rule.Policy.TheVariants.{Accept as Accepting, Drop as Dropping}
use Rattle.ipt_rules.specs.declared.rule.Target.{Target}
use Rattle.ipt_rules.specs.declared.rule.Target.TheVariants.{Accept, Drop, Reject, Return, Count, Jump}
use Rattle.ipt_rules.specs.Chain.{Chain, name_of}
use Rattle.ipt_rules.specs.ChainTable.{rule_count}
use Rattle.ipt_rules.specs.inner.ChainTable.{IsTable}
use Rattle.ipt_rules.specs.Name.{is_user_name, is_printing, begins_as_option, has_name_length, is_reserved}
use Rattle.ipt_rules.specs.RuleParts.{names_ports}
use Rattle.ipt_rules.specs.inner.RuleParts.{is_protocol, are_ports, is_rule, AreRules}
use Rattle.ipt_rules.specs.Text.{newline, negation_text, address_text, protocol_part_text, module_text, ports_text, port_text, service_text, state_text, states_text, policy_text, target_text, chain_line, rule_line, rule_lines, table_line, commit_line, text_lines, text}

-- 1. The options of a line.

negation_short : (negated : Bool) → length (negation_text negated) ≤ 2
negation_short true = omega arith
negation_short false = omega arith

pub address_part_short : (a b c d : ℕ) (part : Option AddrMatch) → length (address_text (a ∷ b ∷ c ∷ d ∷ []) part) ≤ 24
address_part_short a b c d None = omega arith
address_part_short a b c d (Some part) =
    simp length-append (omega (arith, negation_short part.negated, prefix_short part.prefix))

states_short : (new established : Bool) → length (states_text new established) ≤ 15
states_short true true = omega arith
states_short true false = omega arith
states_short false true = omega arith
states_short false false = omega arith

pub state_part_short : (part : Option StateMatch) → length (state_text part) ≤ 41
state_part_short None = omega arith
state_part_short (Some part) =
    simp length-append (omega (arith, negation_short part.negated, states_short part.new part.established))

pub policy_short : (policy : Option Policy) → length (policy_text policy) ≤ 6
policy_short None = omega arith
policy_short (Some Accepting) = omega arith
policy_short (Some Dropping) = omega arith

-- The protocol and the ports that a rule matches on.
by_name : (n : ℕ) (one six other : Bool) → length (decimal n) ≤ 3
    → length (if one then codes "icmp" else if six then codes "tcp" else if other then codes "udp" else decimal n) ≤ 4
by_name n true six other short = omega arith
by_name n false true other short = omega arith
by_name n false false true short = omega arith
by_name n false false false short = omega arith

pub protocol_short : (n : ℕ) → n < 2 ^ 8 → length (protocol_text n) ≤ 4
protocol_short n fits =
    by_name n (n == icmp) (n == tcp) (n == udp) (length-decimal-le 3 n (omega arith) (omega arith) (omega arith))

pub which_has_ports : (n : ℕ) → has_ports n ≡ true → (n ≡ tcp) ⊎ (n ≡ udp)
which_has_ports n ports = grind (arith, nat_tests)

pub counted_short : (n : ℕ) → has_ports n ≡ true → length (protocol_text n) ≤ 3
counted_short n ports = elim (which_has_ports n ports) [
  | inl six ↦ subst (λ (m : ℕ). length (protocol_text m) ≤ 3) (sym six) (omega arith)
  | inr other ↦ subst (λ (m : ℕ). length (protocol_text m) ≤ 3) (sym other) (omega arith)
]

last_port_short : (more : Bool) (high : ℕ) → length (decimal high) ≤ 5 → length (if more then codes ":" ++ decimal high else []) ≤ 6
last_port_short true high short = simp length-append (omega arith)
last_port_short false high short = omega arith

pub ports_short : (low high : ℕ) → nat_le low high ≡ true → nat_le high max_port ≡ true → length (ports_text low high) ≤ 11
ports_short low high order fits =
    let small : high ≤ max_port = grind (arith, nat_tests) in
    let lower : low ≤ high = grind (arith, nat_tests) in
    let first : length (decimal low) ≤ 5 = length-decimal-le 5 low (omega arith) (omega arith) (omega arith) in
    let last : length (decimal high) ≤ 5 = length-decimal-le 5 high (omega arith) (omega arith) (omega arith) in
    simp length-append (omega (arith, first, last_port_short (nat_lt low high) high last))

port_part_short : (a b c d e f g h i : ℕ) (named : Bool) (part : Option PortMatch) → are_ports named part ≡ true
    → length (port_text (a ∷ b ∷ c ∷ d ∷ e ∷ f ∷ g ∷ h ∷ i ∷ []) part) ≤ 22
port_part_short a b c d e f g h i named None fits = omega arith
port_part_short a b c d e f g h i named (Some part) fits =
    let parts = and_parts named (nat_le part.low part.high && nat_le part.high max_port) fits in
    let order = and_parts (nat_le part.low part.high) (nat_le part.high max_port) parts.1 in
    let whole = length-append (negation_text part.negated) (a ∷ b ∷ c ∷ d ∷ e ∷ f ∷ g ∷ h ∷ i ∷ ports_text part.low part.high) in
    omega (arith, whole, negation_short part.negated, ports_short part.low part.high order.0 order.1)

-- With ports, the protocol is named without a `!`.
named_short : (part : ProtoMatch) (sport dport : Option PortMatch) → names_ports (Some part) ≡ true
    → are_ports (names_ports (Some part)) sport ≡ true → are_ports (names_ports (Some part)) dport ≡ true
    → (ports : Bool) → length (protocol_part_text (Some part) ++ (module_text (Some part) ports ++ (port_text (codes " --sport ") sport ++ port_text (codes " --dport ") dport))) ≤ 58
named_short part sport dport named source target ports =
    let parts = and_parts (not part.negated) (has_ports part.proto) named in
    let name = counted_short part.proto parts.1 in
    let mark : length (negation_text part.negated) ≤ 0 = unmarked part.negated parts.0 in
    let options : length (module_text (Some part) ports) ≤ 7 = of_module ports name in
    simp length-append (omega (
      arith,
      name,
      mark,
      options,
      port_part_short 32 45 45 115 112 111 114 116 32 (names_ports (Some part)) sport source,
      port_part_short 32 45 45 100 112 111 114 116 32 (names_ports (Some part)) dport target,
    ))
  where
    unmarked : (negated : Bool) → not negated ≡ true → length (negation_text negated) ≤ 0
    unmarked true h = cc
    unmarked false h = omega arith

    of_module : (ports : Bool) → length (protocol_text part.proto) ≤ 3 → length (module_text (Some part) ports) ≤ 7
    of_module true short = simp length-append (omega arith)
    of_module false short = omega arith

alone_short : (part : ProtoMatch) → is_protocol (Some part) ≡ true → length (service_text (Some part) None None) ≤ 58
alone_short part legal =
    let small : part.proto < 2 ^ 8 = grind (arith, nat_tests) in
    simp length-append (omega (arith, negation_short part.negated, protocol_short part.proto small))

pub service_short : (proto : Option ProtoMatch) (sport dport : Option PortMatch) → is_protocol proto ≡ true
    → are_ports (names_ports proto) sport ≡ true → are_ports (names_ports proto) dport ≡ true → length (service_text proto sport dport) ≤ 58
service_short None None None legal source target = omega arith
service_short None None (Some d) legal source target = cc
service_short None (Some s) dport legal source target = cc
service_short (Some part) None None legal source target = alone_short part legal
service_short (Some part) None (Some d) legal source target =
    named_short part None (Some d) (and_parts (names_ports (Some part)) (nat_le d.low d.high && nat_le d.high max_port) target).0 source target true
service_short (Some part) (Some s) dport legal source target =
    named_short part (Some s) dport (and_parts (names_ports (Some part)) (nat_le s.low s.high && nat_le s.high max_port) source).0 source target true

-- 2. A line.

chain_line_by : (most : ℕ) (chain : Chain) → length chain.name ≤ most → length (chain_line chain) ≤ 15 + most
unfolding chain_line
chain_line_by most chain name = simp length-append (omega (arith, name, policy_short chain.policy))

pub chain_line_short : (chain : Chain) → length chain.name ≤ 64 → length (chain_line chain) ≤ 283
chain_line_short chain name = omega (arith, chain_line_by 64 chain name)

-- The number of bytes of the matches of a rule.
abbrev pub asked : Rule → ℕ
asked rule =
    length (address_text (codes " -s ") rule.src) + (length (address_text (codes " -d ") rule.dst)
    + (length (service_text rule.proto rule.sport rule.dport) + length (state_text rule.state)))

-- With the name of the rule's chain, the matches have at most this number of bytes.
abbrev pub takes_at_most : ℕ → List ℕ → Rule → Bool
takes_at_most take name rule = nat_le (length name + asked rule) take

pub at_most : (n m : ℕ) → n ≤ m → nat_le n m ≡ true
at_most n m h = grind (arith, nat_tests)

below : (n m : ℕ) → nat_le n m ≡ true → n ≤ m
below n m h = grind (arith, nat_tests)

-- A rule matches on ports only together with a protocol.
nothing_asked : (proto : Option ProtoMatch) (sport dport : Option PortMatch) → proto ≡ None
    → is_protocol proto && (are_ports (names_ports proto) sport && are_ports (names_ports proto) dport) ≡ true → service_text proto sport dport ≡ []
nothing_asked None None None none legal = refl
nothing_asked None None (Some d) none legal = cc
nothing_asked None (Some s) dport none legal = cc
nothing_asked (Some part) sport dport none legal = cc

pub no_service : (rule : Rule) → rule.proto ≡ None → is_rule rule ≡ true → service_text rule.proto rule.sport rule.dport ≡ []
no_service rule none legal = nothing_asked rule.proto rule.sport rule.dport none legal

rule_asks : (rule : Rule) → is_rule rule ≡ true → length (service_text rule.proto rule.sport rule.dport) ≤ 58
rule_asks rule legal =
    let ports = are_ports (names_ports rule.proto) rule.sport && are_ports (names_ports rule.proto) rule.dport in
    let parts = and_parts (is_protocol rule.proto) ports legal in
    let both = and_parts (are_ports (names_ports rule.proto) rule.sport) (are_ports (names_ports rule.proto) rule.dport) parts.1 in
    service_short rule.proto rule.sport rule.dport parts.0 both.0 both.1

rule_takes : (name : List ℕ) (rule : Rule) → length name ≤ 64 → is_rule rule ≡ true → takes_at_most 211 name rule ≡ true
rule_takes name rule short legal =
    at_most (length name + asked rule) 211
    (omega (arith, short, rule_asks rule legal, address_part_short 32 45 115 32 rule.src, address_part_short 32 45 100 32 rule.dst, state_part_short rule.state))

rule_line_with : (take most : ℕ) (chains : List Chain) (name service : List ℕ) (src dst : Option AddrMatch) (state : Option StateMatch) (target : Target)
    → length (target_text chains target) ≤ 4 + most
    → length name + (length (address_text (codes " -s ") src) + (length (address_text (codes " -d ") dst) + (length service + length (state_text state)))) ≤ take
    → length (codes "-A " ++ (name ++ (address_text (codes " -s ") src ++ (address_text (codes " -d ") dst ++
    (service ++ (state_text state ++ (target_text chains target ++ newline))))))) ≤ 8 + take + most
rule_line_with take most chains name service src dst state target last few = simp length-append (omega (arith, last, few))

rule_line_by : (take most : ℕ) (chains : List Chain) (name : List ℕ) (rule : Rule)
    → length (target_text chains rule.target) ≤ 4 + most → takes_at_most take name rule ≡ true → length (rule_line chains name rule) ≤ 8 + take + most
unfolding rule_line
rule_line_by take most chains name rule target takes =
    rule_line_with take most chains name (service_text rule.proto rule.sport rule.dport) rule.src rule.dst rule.state rule.target target
    (below (length name + asked rule) take takes)

pub rule_line_short : (chains : List Chain) (name : List ℕ) (rule : Rule)
    → length name ≤ 64 → is_rule rule ≡ true → length (target_text chains rule.target) ≤ 68 → length (rule_line chains name rule) ≤ 283
rule_line_short chains name rule short legal target = rule_line_by 211 64 chains name rule target (rule_takes name rule short legal)

-- 3. The names in a table.

user_name_short : (name : List ℕ) → is_user_name name ≡ true → length name ≤ 64
unfolding is_user_name
user_name_short name legal =
    let parts = and_parts (has_name_length name) (list_all is_printing name && (not (begins_as_option name) && not (is_reserved name))) legal in
    grind (arith, nat_tests, parts.0)

built_in_short : (chains : List Chain) (c : ℕ) → IsTable chains → c < 3 → length (name_of chains c) ≤ 64
built_in_short chains zero table low = omega (arith, ap length table.input)
built_in_short chains (suc zero) table low = omega (arith, ap length table.forward)
built_in_short chains (suc (suc zero)) table low = omega (arith, ap length table.output)
built_in_short chains (suc (suc (suc c))) table low = absurd (omega arith)

-- There is no name after the last chain.
pub no_name : (chains : List Chain) (c : ℕ) → length chains ≤ c → name_of chains c ≡ []
no_name [] c past = refl
no_name (x ∷ xs) zero past = absurd (omega arith)
no_name (x ∷ xs) (suc c) past = no_name xs c (omega arith)

name_short : (chains : List Chain) (c : ℕ) → IsTable chains → length (name_of chains c) ≤ 64
name_short chains c table = elim (cases_lt c 3) [
  | inl low ↦ built_in_short chains c table low
  | inr high ↦ elim (cases_lt c (length chains)) [
    | inl there ↦ user_name_short (name_of chains c) (table.user c high there).0
    | inr past ↦ omega (arith, ap length (no_name chains c past))
  ]
]

-- No name in the table is longer, nor are the names of the built-in chains.
pub record HasNames (most : ℕ) (chains : List Chain) : Type 0 where
  pub built_in : 7 ≤ most
  pub names : (c : ℕ) → length (name_of chains c) ≤ most

target_by : (most : ℕ) (chains : List Chain) (t : Target) → HasNames most chains → length (target_text chains t) ≤ 4 + most
target_by most chains Accept has = omega (arith, has.built_in)
target_by most chains Drop has = omega (arith, has.built_in)
target_by most chains Reject has = omega (arith, has.built_in)
target_by most chains Return has = omega (arith, has.built_in)
target_by most chains Count has = omega (arith, has.built_in)
target_by most chains (Jump c) has = omega (arith, has.names c)

-- 4. All lines.

-- No line is longer than the limit.
abbrev AreShort : ℕ → List (List ℕ) → Type 0
AreShort line [] = Unit {0}
AreShort line (t ∷ ts) = (length t ≤ line) × AreShort line ts

short_append : (line : ℕ) (ss ts : List (List ℕ)) → AreShort line ss → AreShort line ts → AreShort line (ss ++ ts)
short_append line [] ts front later = later
short_append line (s ∷ ss) ts front later = (front.0, short_append line ss ts front.1 later)

short_concat : (line : ℕ) (ts : List (List ℕ)) → AreShort line ts → length (concat ts) ≤ line * length ts
short_concat line [] short = omega arith
short_concat line (t ∷ ts) short = omega (arith, short.0, short_concat line ts short.1, length-append t (concat ts))

chain_lines_short : (take most : ℕ) (xs : List Chain) → 7 ≤ take → ((c : ℕ) → length (name_of xs c) ≤ most) → AreShort (8 + take + most) (map chain_line xs)
chain_lines_short take most [] room names = tt
chain_lines_short take most (x ∷ xs) room names =
    (omega (arith, room, chain_line_by most x (names 0)), chain_lines_short take most xs room (λ c. names (suc c)))

rules_short : (take most : ℕ) (chains : List Chain) (name : List ℕ) (rules : List Rule)
    → HasNames most chains → list_all (takes_at_most take name) rules ≡ true → AreShort (8 + take + most) (map (rule_line chains name) rules)
rules_short take most chains name [] has takes = tt
rules_short take most chains name (r ∷ rs) has takes =
    let parts = and_parts (takes_at_most take name r) (list_all (takes_at_most take name) rs) takes in
    (rule_line_by take most chains name r (target_by most chains r.target has) parts.0, rules_short take most chains name rs has parts.1)

-- The matches of no rule of the chains have more bytes.
abbrev pub TakeAtMost : ℕ → List Chain → Type 0
TakeAtMost take xs = IsTrue (list_all (λ x. list_all (takes_at_most take x.name) x.rules) xs)

rule_lines_short : (take most : ℕ) (chains xs : List Chain)
    → HasNames most chains → TakeAtMost take xs → AreShort (8 + take + most) (flat_map (rule_lines chains) xs)
rule_lines_short take most chains [] has takes = tt
rule_lines_short take most chains (x ∷ xs) has takes =
    let parts = and_parts (list_all (takes_at_most take x.name) x.rules) (list_all (λ y. list_all (takes_at_most take y.name) y.rules) xs) takes in
    short_append (8 + take + most) (rule_lines chains x) (flat_map (rule_lines chains) xs) (rules_short take most chains x.name x.rules has parts.0)
    (rule_lines_short take most chains xs has parts.1)

lines_short : (take most : ℕ) (chains : List Chain) → 7 ≤ take → HasNames most chains → TakeAtMost take chains → AreShort (8 + take + most) (text_lines chains)
lines_short take most chains room has takes =
    let line = 8 + take + most in
    let first : length table_line ≤ 8 + take + most = omega arith in
    let last : length commit_line ≤ 8 + take + most = omega arith in (
      first,
      short_append line (map chain_line chains) (flat_map (rule_lines chains) chains ++ commit_line ∷ []) (chain_lines_short take most chains room has.names)
          (short_append line (flat_map (rule_lines chains) chains) (commit_line ∷ []) (rule_lines_short take most chains chains has takes) (last, tt)),
    )

pub rule_line_count : (chains xs : List Chain) → length (flat_map (rule_lines chains) xs) ≡ rule_count xs
rule_line_count chains [] = refl
rule_line_count chains (x ∷ xs) =
    length-append (rule_lines chains x) (flat_map (rule_lines chains) xs) ∙ omega (arith, length-map x.rules (rule_line chains x.name), rule_line_count chains xs)

-- A line for each chain and for each rule, one line before them and one after them.
pub length-text_lines : (chains : List Chain) → length (text_lines chains) ≡ length chains + rule_count chains + 2
length-text_lines chains = simp length-append (omega (arith, length-map chains chain_line, rule_line_count chains chains))

-- With short names, and rules with short matches, the lines are shorter.
pub text_short_by : (take most : ℕ) (chains : List Chain) → 7 ≤ take → HasNames most chains → TakeAtMost take chains
    → length (text chains) ≤ (8 + take + most) * (length chains + rule_count chains + 2)
text_short_by take most chains room has takes =
    subst (λ (n : ℕ). length (text chains) ≤ (8 + take + most) * n) (length-text_lines chains)
    (short_concat (8 + take + most) (text_lines chains) (lines_short take most chains room has takes))

rules_take : (name : List ℕ) (rules : List Rule) → length name ≤ 64 → list_all is_rule rules ≡ true → list_all (takes_at_most 211 name) rules ≡ true
rules_take name [] short all = refl
rules_take name (r ∷ rs) short all =
    let parts = and_parts (is_rule r) (list_all is_rule rs) all in
    and_from _ _ (rule_takes name r short parts.0) (rules_take name rs short parts.1)

chains_take : (xs : List Chain) → ((c : ℕ) → length (name_of xs c) ≤ 64) → AreRules xs → TakeAtMost 211 xs
chains_take [] names all = refl
chains_take (x ∷ xs) names all =
    let parts = and_parts (list_all is_rule x.rules) (list_all (λ y. list_all is_rule y.rules) xs) all in
    and_from _ _ (rules_take x.name x.rules (names 0) parts.0) (chains_take xs (λ c. names (suc c)) parts.1)

pub text_short : (chains : List Chain) → IsTable chains → AreRules chains → length (text chains) ≤ 283 * (length chains + rule_count chains + 2)
text_short chains table rules =
    let names : (c : ℕ) → length (name_of chains c) ≤ 64 = λ c. name_short chains c table in
    text_short_by 211 64 chains (omega arith) (record { built_in = omega arith; names = names }) (chains_take chains names rules)
