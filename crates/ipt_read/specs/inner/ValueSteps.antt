-- Parsing the values of options, token by token. Callers do not see this; they use `Grammar`.
use Rattle.std.specs.Prelude.{ℕ, Bool, true, false, ◌==◌, if◌then◌else◌, List, [], ◌∷◌, Option, Some, None, codes, bytes_eq}
use Rattle.std.specs.Option.{option_map}
use Rattle.std.specs.List.{list_all, list_any}
use Rattle.host_net.specs.Prefix.{prefix_of}
use Rattle.host_net.specs.declared.prefix.Prefix.{Prefix}
use Rattle.ipt_rules.specs.declared.rule.AddrMatch.{AddrMatch}
use Rattle.ipt_rules.specs.declared.rule.PortMatch.{PortMatch}
use Rattle.ipt_rules.specs.declared.rule.ProtoMatch.{ProtoMatch}
use Rattle.ipt_rules.specs.declared.rule.StateMatch.{StateMatch}
use Rattle.ipt_rules.specs.Chain.{Chain}
use Rattle.ipt_read.specs.declared.option.RuleOption.{RuleOption}
use Rattle.ipt_read.specs.declared.option.RuleOption.TheVariants.{Source, Destination, Protocol, SourcePort, DestinationPort, Interface, Module, CtState, State, Comment, Jump, RejectWith, LogPrefix, LogLevel}
use Rattle.ipt_read.specs.declared.option.Place.{Place}
use Rattle.ipt_read.specs.declared.option.Place.TheVariants.{AtOption, InText}
use Rattle.ipt_read.specs.Options.{PartialRule}
use Rattle.ipt_read.specs.Values.{is_state, listed}
use Rattle.ipt_read.specs.inner.OptionSteps.{target_of, with_module}
use Rattle.ipt_read.specs.inner.ServiceSteps.{asked_protocol, asked_ports}

-- A closing `"` ends the token, and an option may follow.
abbrev pub closes : List ℕ → Option Place
closes [] = Some AtOption
closes (b ∷ bs) = None

-- A string opened by `"` (34): a backslash (92) escapes the next byte, and the first unescaped `"` closes it. Without
-- one in this token the string continues in the next token.
abbrev pub quoted : Bool → List ℕ → Option Place
quoted taken [] = Some InText
quoted taken (b ∷ bs) =
    if taken then quoted false bs else if b == 92 then quoted true bs else if b == 34 then closes bs else quoted false bs

-- A string: one token that does not begin with `"`, or a quoted string.
unfoldable pub text_of : List ℕ → Option Place
text_of [] = Some AtOption
text_of (b ∷ bs) = if b == 34 then quoted false bs else Some AtOption

-- Whether a list of states contains NEW, and whether it contains ESTABLISHED.
unfoldable pub states_of : List ℕ → Option (Bool × Bool)
states_of word =
    if list_all is_state (listed word)
    then Some (list_any (λ w. bytes_eq w (codes "NEW")) (listed word), list_any (λ w. bytes_eq w (codes "ESTABLISHED")) (listed word))
    else None

abbrev pub address_match : Bool → Prefix → AddrMatch
address_match negated p = record { prefix = p; negated = negated }

abbrev pub protocol_match : Bool → ℕ → ProtoMatch
protocol_match negated proto = record { proto = proto; negated = negated }

abbrev pub port_match : Bool → ℕ × ℕ → PortMatch
port_match negated ports = record { low = ports.0; high = ports.1; negated = negated }

abbrev pub state_match : Bool → Bool × Bool → StateMatch
state_match negated flags = record { new = flags.0; established = flags.1; negated = negated }

abbrev pub then_option : PartialRule → PartialRule × Place
then_option given = (given, AtOption)

-- The partial rule after an option's value, and the position of the next token.
unfoldable pub with_value : List Chain → PartialRule → RuleOption → Bool → List ℕ → Option (PartialRule × Place)
with_value chains given Source negated word =
    option_map (λ p. (record given { rule = record given.rule { src = Some (address_match negated p) } }, AtOption)) (prefix_of word)
with_value chains given Destination negated word =
    option_map (λ p. (record given { rule = record given.rule { dst = Some (address_match negated p) } }, AtOption)) (prefix_of word)
with_value chains given Protocol negated word =
    option_map (λ proto. (record given { rule = record given.rule { proto = Some (protocol_match negated proto) } }, AtOption)) (asked_protocol word)
with_value chains given SourcePort negated word =
    option_map (λ ports. (record given { rule = record given.rule { sport = Some (port_match negated ports) } }, AtOption)) (asked_ports word)
with_value chains given DestinationPort negated word =
    option_map (λ ports. (record given { rule = record given.rule { dport = Some (port_match negated ports) } }, AtOption)) (asked_ports word)
with_value chains given Interface negated word = None
with_value chains given Module negated word = option_map then_option (with_module given word)
with_value chains given CtState negated word =
    option_map (λ flags. (record given { rule = record given.rule { state = Some (state_match negated flags) } }, AtOption)) (states_of word)
with_value chains given State negated word =
    option_map (λ flags. (record given { rule = record given.rule { state = Some (state_match negated flags) } }, AtOption)) (states_of word)
with_value chains given Comment negated word = option_map (λ place. (given, place)) (text_of word)
with_value chains given Jump negated word =
    option_map (λ t. (record given { target = Some t }, AtOption)) (target_of chains word)
with_value chains given RejectWith negated word = Some (given, AtOption)
with_value chains given LogPrefix negated word = option_map (λ place. (given, place)) (text_of word)
with_value chains given LogLevel negated word = Some (given, AtOption)
