-- Parsing the options of a rule line, one by one. Callers do not see this; they use `Options` and `Grammar`.
use Rattle.std.specs.Prelude.{ℕ, Bool, true, false, ◌&&◌, nat_lt, if◌then◌else◌, List, [], ◌∷◌, ◌++◌, map, Option, Some, None, codes, bytes_eq, unwrap_or}
use Rattle.std.specs.Map.{lookup}
use Rattle.std.specs.Option.{option_or}
use Rattle.host_net.specs.ServiceText.{protocol_text}
use Rattle.ipt_rules.specs.declared.rule.ProtoMatch.{ProtoMatch}
use Rattle.ipt_rules.specs.declared.rule.Rule.{Rule}
use Rattle.ipt_rules.specs.declared.rule.Target.{Target}
use Rattle.ipt_rules.specs.declared.rule.Target.TheVariants.{Count, Jump as JumpsTo}
use Rattle.ipt_rules.specs.Chain.{Chain, number_of}
use Rattle.ipt_rules.specs.RuleParts.{names_ports}
use Rattle.ipt_read.specs.declared.fault.IptWhy.{IptWhy}
use Rattle.ipt_read.specs.declared.fault.IptWhy.TheVariants.{BadValue}
use Rattle.ipt_read.specs.declared.option.RuleOption.{RuleOption}
use Rattle.ipt_read.specs.declared.option.RuleOption.TheVariants.{Source, Destination, Protocol, SourcePort, DestinationPort, Interface, Module, CtState, State, Comment, Jump, RejectWith, LogPrefix, LogLevel}
use Rattle.ipt_read.specs.Options.{PartialRule, Row, in_front, row_of, is_repeated_or_negated, named_target}

-- The name of an option; an interface match also has another name.
abbrev pub written : RuleOption → List ℕ
written Source = codes "-s"
written Destination = codes "-d"
written Protocol = codes "-p"
written SourcePort = codes "--sport"
written DestinationPort = codes "--dport"
written Interface = codes "-i"
written Module = codes "-m"
written CtState = codes "--ctstate"
written State = codes "--state"
written Comment = codes "--comment"
written Jump = codes "-j"
written RejectWith = codes "--reject-with"
written LogPrefix = codes "--log-prefix"
written LogLevel = codes "--log-level"

-- An option with its name.
abbrev pub named : RuleOption → List ℕ × RuleOption
named o = (written o, o)

-- The options of targets.
abbrev pub target_options : List (List ℕ × RuleOption)
target_options = map named (RejectWith ∷ LogPrefix ∷ LogLevel ∷ [])

abbrev pub option_of_target : List ℕ → Option RuleOption
option_of_target word = lookup (bytes_eq word) target_options

-- The supported options.
abbrev pub named_options : List (List ℕ × RuleOption)
named_options =
    map named (Source ∷ Destination ∷ Protocol ∷ SourcePort ∷ DestinationPort ∷ CtState ∷ State ∷ Comment ∷ Module ∷ Jump ∷ []) ++ target_options

unfoldable pub option_of : List ℕ → Option RuleOption
option_of word =
    if bytes_eq word (codes "-i") then Some Interface
    else if bytes_eq word (codes "-o") then Some Interface
    else lookup (bytes_eq word) named_options

-- The row of each option in the table. An interface match has no row there, and is allowed before the target.
abbrev pub row : RuleOption → Row
row o = unwrap_or (row_of (written o)) (record { stands = in_front; part = None; refusal = BadValue })

abbrev pub is_allowed_here : PartialRule → RuleOption → Bool
is_allowed_here given o = (row o).stands given

abbrev pub bars : PartialRule → Bool → RuleOption → Bool
bars given negated o = is_repeated_or_negated given negated (row o)

-- The reason to reject an invalid value.
abbrev pub value_refusal : RuleOption → IptWhy
value_refusal o = (row o).refusal

abbrev pub is_interface : RuleOption → Bool
is_interface Interface = true
is_interface _ = false

-- A jump to a declared user chain.
abbrev pub jump_to : Option ℕ → Option Target
jump_to None = None
jump_to (Some c) = if nat_lt c 3 then None else Some (JumpsTo c)

-- A target by its own name, or by the name of a chain.
unfoldable pub target_of : List Chain → List ℕ → Option Target
target_of chains word = option_or (named_target word) (jump_to (number_of chains word))

-- The module with the port options is named after the protocol, `tcp` or `udp`, that the rule matches on.
abbrev pub is_own_module : Option ProtoMatch → List ℕ → Bool
is_own_module None word = false
is_own_module (Some part) word = names_ports (Some part) && bytes_eq word (protocol_text part.proto)

-- The modules: `conntrack`, `state`, `comment`, and that of the protocol.
unfoldable pub with_module : PartialRule → List ℕ → Option PartialRule
with_module given word =
    if bytes_eq word (codes "conntrack") then Some (record given { conntrack = true })
    else if bytes_eq word (codes "state") then Some (record given { states = true })
    else if bytes_eq word (codes "comment") then Some (record given { comments = true })
    else if is_own_module given.rule.proto word then Some (record given { ports = true })
    else None

-- The rule that all options yield.
abbrev pub rule_of : PartialRule → Rule
rule_of given = record given.rule { target = unwrap_or given.target Count }
