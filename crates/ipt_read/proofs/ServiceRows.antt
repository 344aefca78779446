-- Test vectors: rule lines with protocols and ports, their parse results, and the reasons of rejection.
use Rattle.std.proofs.Common.{◌≡◌, true, false, ℕ, List, [], ◌∷◌, ◌++◌, Option, Some, None, map, refl}
use Rattle.std.specs.Prelude.{codes, Result, Ok, Err}
use Rattle.std.specs.Fmt.{digits}
use Rattle.text_core.specs.inner.Decimal.{number}
use Rattle.host_net.specs.Prefix.{prefix_of, prefix_with, prefix_text, address_text, octet}
use Rattle.ipt_rules.specs.declared.rule.PortMatch.{PortMatch}
use Rattle.ipt_rules.specs.declared.rule.ProtoMatch.{ProtoMatch}
use Rattle.ipt_rules.specs.declared.rule.Rule.{Rule}
use Rattle.ipt_rules.specs.declared.rule.Target.TheVariants.{Accept, Count}
use Rattle.ipt_read.specs.declared.fault.IptWhy.{IptWhy}
use Rattle.ipt_read.specs.declared.fault.IptWhy.TheVariants.{BadLine, UnknownOption, BadValue}
use Rattle.ipt_read.specs.Values.{is_state}
use Rattle.ipt_read.specs.inner.OptionSteps.{option_of, target_of, with_module}
use Rattle.ipt_read.specs.inner.ValueSteps.{states_of, with_value}
use Rattle.ipt_read.specs.inner.ServiceSteps.{asked_protocol, asked_ports}
use Rattle.ipt_read.specs.inner.Counts.{is_count}
use Rattle.ipt_read.specs.inner.RuleLine.{is_bang, word_step, rule_line_of}
use Rattle.ipt_read.proofs.RuleRows.{row}

-- The line of FORWARD with these options.
abbrev forward : List ℕ → Result (ℕ × Rule) IptWhy
forward options = row (codes "-A FORWARD " ++ options)

abbrev protocol : ℕ → Option ProtoMatch
protocol proto = Some (record { proto = proto; negated = false })

abbrev ports : ℕ → ℕ → Option PortMatch
ports low high = Some (record { low = low; high = high; negated = false })

-- A rule that matches only on a protocol and ports.
abbrev asks : Option ProtoMatch → Option PortMatch → Option PortMatch → Result (ℕ × Rule) IptWhy
asks proto sport dport =
    Ok (1, record { src = None; dst = None; proto = proto; sport = sport; dport = dport; state = None; target = Count })

row_web : forward (codes "-d 192.168.1.10/32 -p tcp -m tcp --dport 443 -m conntrack --ctstate NEW -j ACCEPT") ≡ Ok (
  1,
  record {
    src = None;
    dst = Some (record { prefix = prefix_with 3232235786 32; negated = false });
    proto = protocol 6;
    sport = None;
    dport = ports 443 443;
    state = Some (record { new = true; established = false; negated = false });
    target = Accept;
  },
)
unfolding rule_line_of is_count word_step is_bang option_of with_value states_of is_state target_of with_module asked_protocol asked_ports prefix_of octet address_text prefix_text number digits
row_web = refl

-- Options that are rejected, and the reasons.
abbrev refused_options : List (List ℕ × IptWhy)
refused_options =
    (codes "-p tcp -m multiport --dports 80,443 -j ACCEPT", UnknownOption)
    ∷ (codes "--dport 80 -j ACCEPT", UnknownOption)
    ∷ (codes "-p tcp --dport 80", UnknownOption)
    ∷ (codes "! --sport 80", UnknownOption)
    ∷ (codes "-p icmp --icmp-type 8", UnknownOption)
    ∷ (codes "-p icmp -m icmp", UnknownOption)
    ∷ (codes "-m tcp", UnknownOption)
    ∷ (codes "-m tcp -p tcp", UnknownOption)
    ∷ (codes "! -p tcp -m tcp", UnknownOption)
    ∷ (codes "-p tcp -m udp", UnknownOption)
    ∷ (codes "-p icmp -m tcp", UnknownOption)
    ∷ (codes "-p tcp ! -m tcp", BadLine)
    ∷ (codes "-p tcp -p udp", BadLine)
    ∷ (codes "-p tcp ! -p x", BadLine)
    ∷ (codes "-j ACCEPT -p tcp", UnknownOption)
    ∷ (codes "-p tcp -m tcp -j ACCEPT --dport 80", UnknownOption)
    ∷ (codes "-p tcp -m tcp --dport 80 --dport x", BadLine)
    ∷ (codes "-p", BadValue)
    ∷ (codes "-p 0", BadValue)
    ∷ (codes "-p 256", BadValue)
    ∷ (codes "-p 06", BadValue)
    ∷ (codes "-p all", BadValue)
    ∷ (codes "-p TCP", BadValue)
    ∷ (codes "-p tcp -m tcp --dport 90:80", BadValue)
    ∷ (codes "-p tcp -m tcp --dport :", BadValue)
    ∷ (codes "-p tcp -m tcp --dport 1:2:3", BadValue)
    ∷ (codes "-p tcp -m tcp --dport 65536", BadValue)
    ∷ (codes "-p udp -m udp --sport 080", BadValue)
    ∷ (codes "-p tcp -m tcp --dport http", BadValue)
    ∷ (codes "-p tcp -m tcp ! --dport", BadValue)
    ∷ []

options_refused : map (λ (r : List ℕ × IptWhy). forward r.0) refused_options ≡ map (λ (r : List ℕ × IptWhy). Err r.1) refused_options
unfolding asked_ports asked_protocol is_bang is_count is_state number option_of prefix_of octet address_text prefix_text rule_line_of states_of target_of with_module with_value word_step digits
options_refused = refl

row_protocol_number : forward (codes "-p 6 -m tcp --dport 80") ≡ asks (protocol 6) None (ports 80 80)
unfolding rule_line_of is_count word_step is_bang option_of with_value states_of is_state target_of with_module asked_protocol asked_ports prefix_of octet address_text prefix_text number digits
row_protocol_number = refl

row_protocol_other : forward (codes "-p 47") ≡ asks (protocol 47) None None
unfolding rule_line_of is_count word_step is_bang option_of with_value states_of is_state target_of with_module asked_protocol asked_ports prefix_of octet address_text prefix_text number digits
row_protocol_other = refl

row_protocol_last : forward (codes "-p 255") ≡ asks (protocol 255) None None
unfolding rule_line_of is_count word_step is_bang option_of with_value states_of is_state target_of with_module asked_protocol asked_ports prefix_of octet address_text prefix_text number digits
row_protocol_last = refl

row_icmp : forward (codes "-p icmp") ≡ asks (protocol 1) None None
unfolding rule_line_of is_count word_step is_bang option_of with_value states_of is_state target_of with_module asked_protocol asked_ports prefix_of octet address_text prefix_text number digits
row_icmp = refl

row_esp : forward (codes "-p esp") ≡ asks (protocol 50) None None
unfolding rule_line_of is_count word_step is_bang option_of with_value states_of is_state target_of with_module asked_protocol asked_ports prefix_of octet address_text prefix_text number digits
row_esp = refl

row_ah : forward (codes "-p ah") ≡ asks (protocol 51) None None
unfolding rule_line_of is_count word_step is_bang option_of with_value states_of is_state target_of with_module asked_protocol asked_ports prefix_of octet address_text prefix_text number digits
row_ah = refl

row_sctp : forward (codes "! -p sctp") ≡ asks (Some (record { proto = 132; negated = true })) None None
unfolding rule_line_of is_count word_step is_bang option_of with_value states_of is_state target_of with_module asked_protocol asked_ports prefix_of octet address_text prefix_text number digits
row_sctp = refl

row_module_twice : forward (codes "-p udp -m udp -m udp") ≡ asks (protocol 17) None None
unfolding rule_line_of is_count word_step is_bang option_of with_value states_of is_state target_of with_module asked_protocol asked_ports prefix_of octet address_text prefix_text number digits
row_module_twice = refl

row_ports : forward (codes "-p udp -m udp --sport 53:60 --dport 5:5") ≡ asks (protocol 17) (ports 53 60) (ports 5 5)
unfolding rule_line_of is_count word_step is_bang option_of with_value states_of is_state target_of with_module asked_protocol asked_ports prefix_of octet address_text prefix_text number digits
row_ports = refl

row_ports_up_to : forward (codes "-p udp -m udp --dport :1023") ≡ asks (protocol 17) None (ports 0 1023)
unfolding rule_line_of is_count word_step is_bang option_of with_value states_of is_state target_of with_module asked_protocol asked_ports prefix_of octet address_text prefix_text number digits
row_ports_up_to = refl

row_ports_from : forward (codes "-p udp -m udp --sport 1024:") ≡ asks (protocol 17) (ports 1024 65535) None
unfolding rule_line_of is_count word_step is_bang option_of with_value states_of is_state target_of with_module asked_protocol asked_ports prefix_of octet address_text prefix_text number digits
row_ports_from = refl

row_ports_all : forward (codes "-p tcp -m tcp ! --dport 0:65535") ≡ asks (protocol 6) None (Some (record { low = 0; high = 65535; negated = true }))
unfolding rule_line_of is_count word_step is_bang option_of with_value states_of is_state target_of with_module asked_protocol asked_ports prefix_of octet address_text prefix_text number digits
row_ports_all = refl
