-- The text of a rule set, line by line (iptables-save(8), iptables-restore(8)).
use Rattle.std.specs.Prelude.{ℕ, Bool, true, false, ◌||◌, nat_lt, if◌then◌else◌, List, [], ◌∷◌, ◌++◌, Option, Some, None, is_some, map, codes, decimal}
use Rattle.std.specs.List.{flat_map, concat}
use Rattle.host_net.specs.Prefix.{prefix_text}
use Rattle.host_net.specs.ServiceText.{protocol_text}
use Rattle.ipt_rules.specs.declared.rule.AddrMatch.{AddrMatch}
use Rattle.ipt_rules.specs.declared.rule.PortMatch.{PortMatch}
use Rattle.ipt_rules.specs.declared.rule.ProtoMatch.{ProtoMatch}
use Rattle.ipt_rules.specs.declared.rule.StateMatch.{StateMatch}
use Rattle.ipt_rules.specs.declared.rule.Rule.{Rule}
use Rattle.ipt_rules.specs.declared.rule.Target.{Target}
use Rattle.ipt_rules.specs.declared.rule.Target.TheVariants.{Accept, Drop, Reject, Return, Count, Jump}
use Rattle.ipt_rules.specs.declared.rule.Policy.{Policy}
use Rattle.ipt_rules.specs.declared.rule.Policy.TheVariants.{Accept as Accepting, Drop as Dropping}
use Rattle.ipt_rules.specs.Chain.{Chain, name_of}

abbrev pub newline : List ℕ
newline = 10 ∷ []

-- The `!` before an inverted option.
abbrev pub negation_text : Bool → List ℕ
negation_text negated = if negated then codes " !" else []

-- An address match after its option; empty if it is absent.
abbrev pub address_text : List ℕ → Option AddrMatch → List ℕ
address_text option None = []
address_text option (Some part) = negation_text part.negated ++ (option ++ prefix_text part.prefix)

-- A protocol match after its option.
abbrev pub protocol_part_text : Option ProtoMatch → List ℕ
protocol_part_text None = []
protocol_part_text (Some part) = negation_text part.negated ++ (codes " -p " ++ protocol_text part.proto)

-- The match module of the port options is named after the protocol.
abbrev pub module_text : Option ProtoMatch → Bool → List ℕ
module_text None ports = []
module_text (Some part) ports = if ports then codes " -m " ++ protocol_text part.proto else []

-- A port, or the first and the last port of a range.
abbrev pub ports_text : ℕ → ℕ → List ℕ
ports_text low high = decimal low ++ (if nat_lt low high then codes ":" ++ decimal high else [])

-- A port match after its option; empty if it is absent.
abbrev pub port_text : List ℕ → Option PortMatch → List ℕ
port_text option None = []
port_text option (Some part) = negation_text part.negated ++ (option ++ ports_text part.low part.high)

-- The protocol and port matches of a rule.
abbrev pub service_text : Option ProtoMatch → Option PortMatch → Option PortMatch → List ℕ
service_text proto sport dport =
    protocol_part_text proto
    ++ (module_text proto (is_some sport || is_some dport) ++ (port_text (codes " --sport ") sport ++ port_text (codes " --dport ") dport))

-- The states of a state match, by the two flags.
abbrev pub states_text : Bool → Bool → List ℕ
states_text true true = codes "NEW,ESTABLISHED"
states_text true false = codes "NEW"
states_text false true = codes "ESTABLISHED"
states_text false false = codes "INVALID"

abbrev pub state_text : Option StateMatch → List ℕ
state_text None = []
state_text (Some part) =
    codes " -m conntrack" ++ (negation_text part.negated ++ (codes " --ctstate " ++ states_text part.new part.established))

-- The target option of a rule. A jump has the name of its chain, and a rule that only counts has no target option.
abbrev pub target_text : List Chain → Target → List ℕ
target_text chains Accept = codes " -j ACCEPT"
target_text chains Drop = codes " -j DROP"
target_text chains Reject = codes " -j REJECT"
target_text chains Return = codes " -j RETURN"
target_text chains Count = []
target_text chains (Jump c) = codes " -j " ++ name_of chains c

-- The policy of a built-in chain. A user chain has none.
abbrev pub policy_text : Option Policy → List ℕ
policy_text None = codes "-"
policy_text (Some Accepting) = codes "ACCEPT"
policy_text (Some Dropping) = codes "DROP"

-- The line of a chain.
unfoldable pub chain_line : Chain → List ℕ
chain_line chain =
    codes ":" ++ (chain.name ++ (codes " " ++ (policy_text chain.policy ++ (codes " [0:0]" ++ newline))))

-- The line of a rule of the chain with this name.
unfoldable pub rule_line : List Chain → List ℕ → Rule → List ℕ
rule_line chains name rule =
    codes "-A " ++ (name ++ (address_text (codes " -s ") rule.src ++ (address_text (codes " -d ") rule.dst ++
    (service_text rule.proto rule.sport rule.dport ++ (state_text rule.state ++ (target_text chains rule.target ++ newline))))))

-- The lines of the rules of a chain.
abbrev pub rule_lines : List Chain → Chain → List (List ℕ)
rule_lines chains chain = map (rule_line chains chain.name) chain.rules

abbrev pub table_line : List ℕ
table_line = codes "*filter" ++ newline

abbrev pub commit_line : List ℕ
commit_line = codes "COMMIT" ++ newline

-- The lines of the text: the table, the chains, the rules of each chain in order, and COMMIT.
abbrev pub text_lines : List Chain → List (List ℕ)
text_lines chains =
    table_line ∷ (map chain_line chains ++ (flat_map (rule_lines chains) chains ++ commit_line ∷ []))

-- The text is the concatenation of its lines.
abbrev pub text : List Chain → List ℕ
text chains = concat (text_lines chains)
