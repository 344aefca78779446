-- Test vectors: rule lines with their parse results, and rejected rule lines with their reasons.
use Rattle.std.proofs.Common.{◌≡◌, true, false, List, [], ◌∷◌, ◌++◌, ℕ, Some, None, map, refl}
use Rattle.std.specs.Prelude.{codes, Result, Ok, Err}
use Rattle.std.specs.Fmt.{digits}
use Rattle.text_core.specs.inner.Decimal.{number}
use Rattle.text_core.specs.Lines.{words}
use Rattle.host_net.specs.Prefix.{prefix_of, prefix_with, prefix_text, address_text, octet}
use Rattle.ipt_rules.specs.declared.rule.Rule.{Rule}
use Rattle.ipt_rules.specs.declared.rule.Target.TheVariants.{Reject, Return, Count, Jump}
use Rattle.ipt_rules.specs.Chain.{Chain, built_in_chains, user_chain}
use Rattle.ipt_read.specs.declared.fault.IptWhy.{IptWhy}
use Rattle.ipt_read.specs.declared.fault.IptWhy.TheVariants.{BadLine, UnknownChain, Interface, UnknownOption, BadValue, UnknownTarget}
use Rattle.ipt_read.specs.Values.{is_state}
use Rattle.ipt_read.specs.inner.OptionSteps.{option_of, target_of, with_module}
use Rattle.ipt_read.specs.inner.ValueSteps.{text_of, states_of, with_value}
use Rattle.ipt_read.specs.inner.Counts.{is_count}
use Rattle.ipt_read.specs.inner.RuleLine.{is_bang, word_step, rule_line_of}

-- The built-in chains and a chain `x`.
abbrev pub chains : List Chain
chains = built_in_chains ++ (user_chain (codes "x") ∷ [])

abbrev pub row : List ℕ → Result (ℕ × Rule) IptWhy
row line = rule_line_of chains (words line)

-- Rule lines that are rejected, and the reasons.
abbrev refused_rows : List (List ℕ × IptWhy)
refused_rows =
    (codes "-A", BadLine)
    ∷ (codes "[0:0 -A FORWARD", BadLine)
    ∷ (codes "[0:0] COMMIT", BadLine)
    ∷ (codes "[0:123456789012345678901] -A FORWARD", BadLine)
    ∷ (codes "-A nowhere -i x", UnknownChain)
    ∷ (codes "-A FORWARD -i eth0 -j ACCEPT", Interface)
    ∷ (codes "-A FORWARD ! -i eth0", Interface)
    ∷ (codes "-A FORWARD -j DROP -i eth0", UnknownOption)
    ∷ (codes "-A FORWARD !", BadLine)
    ∷ (codes "-A FORWARD ! -m conntrack", BadLine)
    ∷ (codes "-A FORWARD ! -m bogus", BadLine)
    ∷ (codes "-A FORWARD ! -j ACCEPT", BadLine)
    ∷ (codes "-A FORWARD -m comment ! --comment a", BadLine)
    ∷ (codes "-A FORWARD ! --comment a", UnknownOption)
    ∷ (codes "-A FORWARD ! --reject-with a", UnknownOption)
    ∷ (codes "-A FORWARD ! x", UnknownOption)
    ∷ (codes "-A FORWARD ! -s", BadValue)
    ∷ (codes "-A FORWARD -j DROP !", UnknownOption)
    ∷ (codes "-A FORWARD ! !", UnknownOption)
    ∷ (codes "-A FORWARD ! ! -s 10.0.0.1", UnknownOption)
    ∷ (codes "-A FORWARD -s 10.0.0.1 -s x", BadLine)
    ∷ (codes "-A FORWARD -s 10.0.0.1/33", BadValue)
    ∷ (codes "-A FORWARD -s", BadValue)
    ∷ (codes "-A FORWARD -m conntrack --ctstate NEW --state NEW", UnknownOption)
    ∷ (codes "-A FORWARD -m conntrack -m state --ctstate NEW --state x", BadLine)
    ∷ (codes "-A FORWARD -m state --state NEW,", BadValue)
    ∷ (codes "-A FORWARD -m state --state new", BadValue)
    ∷ (codes "-A FORWARD -m tcp", UnknownOption)
    ∷ (codes "-A FORWARD -m", BadValue)
    ∷ (codes "-A FORWARD -j INPUT", UnknownTarget)
    ∷ (codes "-A FORWARD -j QUEUE", UnknownTarget)
    ∷ (codes "-A FORWARD -j \"ACCEPT\"", UnknownTarget)
    ∷ (codes "-A FORWARD -j ACCEPT -j DROP", UnknownOption)
    ∷ (codes "-A FORWARD -j REJECT --reject-with \"a b\"", UnknownOption)
    ∷ (codes "-A FORWARD -j DROP --reject-with a", UnknownOption)
    ∷ (codes "-A FORWARD -m comment --comment \"a b", BadValue)
    ∷ (codes "-A FORWARD -m comment --comment \"a\"b c", BadValue)
    ∷ (codes "-A FORWARD -m comment --comment \"a\\\"", BadValue)
    ∷ (codes "-A FORWARD -m comment --comment \"a\\ \" -i", Interface)
    ∷ (codes "-A FORWARD -m comment --comment \"a \" x", UnknownOption)
    ∷ (codes "-A FORWARD -j LOG --log-prefix a --log-level 4 -s", UnknownOption)
    ∷ []

rows_refused : map (λ (r : List ℕ × IptWhy). row r.0) refused_rows ≡ map (λ (r : List ℕ × IptWhy). Err r.1) refused_rows
unfolding is_bang is_count is_state number option_of prefix_of octet address_text prefix_text rule_line_of states_of target_of text_of with_module with_value word_step digits
rows_refused = refl

row_accepts : row (codes "-A FORWARD") ≡ Ok (1, record { src = None; dst = None; proto = None; sport = None; dport = None; state = None; target = Count })
unfolding rule_line_of is_count word_step is_bang option_of with_value text_of is_state states_of target_of with_module prefix_of octet address_text prefix_text number digits
row_accepts = refl

row_jumps : row (codes "[4:240] -A FORWARD -s 192.168.1.0/24 -m comment --comment \"from the office\" -j x") ≡ Ok (1, record { src = Some (record { prefix = prefix_with 3232235776 24; negated = false }); dst = None; proto = None; sport = None; dport = None; state = None; target = Jump 3 })
unfolding rule_line_of is_count word_step is_bang option_of with_value text_of is_state states_of target_of with_module prefix_of octet address_text prefix_text number digits
row_jumps = refl

row_states : row (codes "-A FORWARD ! -d 10.0.0.1 -m conntrack ! --ctstate RELATED,ESTABLISHED -j REJECT --reject-with icmp-port-unreachable") ≡ Ok (1, record { src = None; dst = Some (record { prefix = prefix_with 167772161 32; negated = true }); proto = None; sport = None; dport = None; state = Some (record { new = false; established = true; negated = true }); target = Reject })
unfolding rule_line_of is_count word_step is_bang option_of with_value text_of is_state states_of target_of with_module prefix_of octet address_text prefix_text number digits
row_states = refl

row_comment_twice : row (codes "-A x -m comment --comment a --comment a\"b -j LOG --log-prefix \"a b\" --log-level 4") ≡ Ok (3, record { src = None; dst = None; proto = None; sport = None; dport = None; state = None; target = Count })
unfolding rule_line_of is_count word_step is_bang option_of with_value text_of is_state states_of target_of with_module prefix_of octet address_text prefix_text number digits
row_comment_twice = refl

row_own_chain : row (codes "-A x -j x") ≡ Ok (3, record { src = None; dst = None; proto = None; sport = None; dport = None; state = None; target = Jump 3 })
unfolding rule_line_of is_count word_step is_bang option_of with_value text_of is_state states_of target_of with_module prefix_of octet address_text prefix_text number digits
row_own_chain = refl

row_zeros : row (codes "[00:007] -A INPUT -m state --state INVALID -j RETURN") ≡ Ok (0, record { src = None; dst = None; proto = None; sport = None; dport = None; state = Some (record { new = false; established = false; negated = false }); target = Return })
unfolding rule_line_of is_count word_step is_bang option_of with_value text_of is_state states_of target_of with_module prefix_of octet address_text prefix_text number digits
row_zeros = refl
