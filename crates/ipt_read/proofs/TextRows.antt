-- Test vectors: whole files with their parse results, and their first errors.
use Rattle.std.proofs.Common.{◌≡◌, ℕ, List, [], ◌∷◌, ◌++◌, Some, None, true, false, map, refl}
use Rattle.std.specs.Prelude.{codes, Result, Ok, Err, ◌+◌, if◌then◌else◌}
use Rattle.std.specs.List.{flat_map}
use Rattle.std.specs.Fmt.{digits}
use Rattle.text_core.specs.inner.Decimal.{number}
use Rattle.text_core.specs.Lines.{lines, is_comment}
use Rattle.host_net.specs.Prefix.{prefix_of, prefix_with, prefix_text, address_text, octet}
use Rattle.ipt_rules.specs.declared.rule.AddrMatch.{AddrMatch}
use Rattle.ipt_rules.specs.declared.rule.StateMatch.{StateMatch}
use Rattle.ipt_rules.specs.declared.rule.Rule.{Rule}
use Rattle.ipt_rules.specs.declared.rule.Target.TheVariants.{Accept as Accepts, Reject, Return, Jump}
use Rattle.ipt_rules.specs.declared.rule.Policy.TheVariants.{Accept, Drop}
use Rattle.ipt_rules.specs.Chain.{with_policy, with_rule}
use Rattle.ipt_rules.specs.Name.{is_user_name, is_reserved}
use Rattle.ipt_read.specs.declared.fault.IptWhy.TheVariants.{BadLine, OtherTable, BadChain, UnknownChain, Interface, UnknownTarget, NoCommit, AfterCommit}
use Rattle.ipt_read.specs.Values.{is_state}
use Rattle.ipt_read.specs.inner.OptionSteps.{option_of, target_of, with_module}
use Rattle.ipt_read.specs.inner.ValueSteps.{text_of, states_of, with_value}
use Rattle.ipt_read.specs.inner.Counts.{is_count}
use Rattle.ipt_read.specs.inner.RuleLine.{is_bang, word_step, rule_line_of}
use Rattle.ipt_read.specs.inner.LineStep.{chain_line_of, body_line_of, line_of_words}
use Rattle.ipt_read.specs.declared.fault.IptWhy.{IptWhy}
use Rattle.ipt_read.specs.inner.LineStep.{line_step}
use Rattle.ipt_read.specs.ParserStates.{Stage, After, ParserState, initial_state}

-- The parse result of the lines of a file by steps, from line n on.
abbrev ended : ℕ → Stage → ParserState → Result ParserState (ℕ × IptWhy)
ended n After s = Ok s
ended n _ s = Err (n, NoCommit)

abbrev by_lines : ℕ → Result ParserState IptWhy → List (List ℕ) → Result ParserState (ℕ × IptWhy)
by_lines n (Err why) ls = Err (n, why)
by_lines n (Ok s) [] = ended (n + 1) s.stage s
by_lines n (Ok s) (l ∷ ls) = by_lines (n + 1) (if is_comment l then Ok s else line_step (n + 1) s l) ls

unfoldable text_said : List ℕ → Result ParserState (ℕ × IptWhy)
text_said bytes = by_lines 0 (Ok initial_state) (lines bytes)

-- A rule that jumps unconditionally.
abbrev jumps : ℕ → Rule
jumps c = record { src = None; dst = None; proto = None; sport = None; dport = None; state = None; target = Jump c }

-- Lines, each with its line end.
abbrev text_of_lines : List (List ℕ) → List ℕ
text_of_lines ls = flat_map (λ l. l ++ (10 ∷ [])) ls

-- Files that are rejected, at which line, and the reasons.
abbrev refused_texts : List (List ℕ × ℕ × IptWhy)
refused_texts = (
  text_of_lines (codes "*filter" ∷ codes ":INPUT ACCEPT [0:0]" ∷ codes ":FORWARD DROP [0:0]"
      ∷ codes ":OUTPUT ACCEPT [0:0]" ∷ codes ":x - [0:0]" ∷ codes ":y - [0:0]"
      ∷ codes "-A FORWARD -i eth0 -j ACCEPT" ∷ codes "-A y -j x" ∷ codes "COMMIT" ∷ []),
  7,
  Interface,
)
    ∷ (
      text_of_lines (codes "*filter" ∷ codes ":INPUT ACCEPT [0:0]" ∷ codes ":FORWARD DROP [0:0]"
          ∷ codes ":OUTPUT ACCEPT [0:0]" ∷ codes ":x - [0:0]" ∷ codes ":y - [0:0]"
          ∷ codes "-A x -j y" ∷ []),
      8,
      NoCommit,
    )
    ∷ ([], 1, NoCommit)
    ∷ (text_of_lines (codes "# a" ∷ [] ∷ codes "#" ∷ []), 4, NoCommit)
    ∷ (text_of_lines (codes "*nat" ∷ []), 1, OtherTable)
    ∷ (text_of_lines (codes "*nat extra" ∷ []), 1, OtherTable)
    ∷ (text_of_lines (codes "*filter extra" ∷ []), 1, BadLine)
    ∷ (text_of_lines (codes "*" ∷ []), 1, OtherTable)
    ∷ (text_of_lines (codes "COMMIT" ∷ []), 1, BadLine)
    ∷ (text_of_lines (codes "*filter" ∷ codes "*nat" ∷ []), 2, BadLine)
    ∷ (text_of_lines (codes "# a" ∷ codes "*filter" ∷ codes "COMMIT" ∷ codes "# b" ∷ codes "*nat" ∷ []), 5, AfterCommit)
    ∷ (text_of_lines (codes "*filter" ∷ codes "COMMIT x" ∷ []), 2, BadLine)
    ∷ (text_of_lines (codes "*filter" ∷ codes ":" ∷ []), 2, BadChain)
    ∷ (text_of_lines (codes "*filter" ∷ codes "-AFORWARD" ∷ []), 2, BadLine)
    ∷ (text_of_lines (codes "*filter" ∷ codes "! -A FORWARD" ∷ []), 2, BadLine)
    ∷ (text_of_lines (codes "*filter" ∷ codes ":INPUT ACCEPT" ∷ codes ":INPUT ACCEPT" ∷ []), 3, BadChain)
    ∷ (text_of_lines (codes "*filter" ∷ codes ":x -" ∷ codes ":x -" ∷ []), 3, BadChain)
    ∷ (text_of_lines (codes "*filter" ∷ codes ":INPUT -" ∷ []), 2, BadChain)
    ∷ (text_of_lines (codes "*filter" ∷ codes ":x ACCEPT" ∷ []), 2, BadChain)
    ∷ (text_of_lines (codes "*filter" ∷ codes ":QUEUE -" ∷ []), 2, BadChain)
    ∷ (text_of_lines (codes "*filter" ∷ codes ":x - 0:0" ∷ []), 2, BadChain)
    ∷ (text_of_lines (codes "*filter" ∷ codes ":x - [0:0] x" ∷ []), 2, BadChain)
    ∷ (text_of_lines (codes "*filter" ∷ codes "-A x" ∷ codes ":x -" ∷ codes "COMMIT" ∷ []), 2, UnknownChain)
    ∷ (text_of_lines (codes "*filter" ∷ codes "-A INPUT -j x" ∷ codes ":x -" ∷ codes "COMMIT" ∷ []), 2, UnknownTarget)
    -- A file with a byte 13 at a line's end is rejected at its first line that is no comment.
    ∷ (codes "*filter" ++ (13 ∷ 10 ∷ []), 1, OtherTable)
    ∷ []

texts_refused : map (λ (r : List ℕ × ℕ × IptWhy). text_said r.0) refused_texts ≡ map (λ (r : List ℕ × ℕ × IptWhy). Err (r.1, r.2)) refused_texts
unfolding body_line_of chain_line_of is_bang is_comment is_count is_reserved is_state is_user_name line_of_words number option_of prefix_of octet address_text prefix_text rule_line_of states_of target_of text_of text_said with_module with_policy with_rule with_value word_step digits
texts_refused = refl

-- Two chains that jump to each other: each is reported at its chain line.
row_loop : text_said (text_of_lines (codes "*filter" ∷ codes ":INPUT ACCEPT [0:0]" ∷ codes ":FORWARD DROP [0:0]" ∷ codes ":OUTPUT ACCEPT [0:0]" ∷ codes ":x - [0:0]" ∷ codes ":y - [0:0]" ∷ codes "-A x -j y" ∷ codes "-A y -j x" ∷ codes "COMMIT" ∷ []))
    ≡ Ok (record {
      stage = After;
      chains = record { name = codes "INPUT"; policy = Some Accept; rules = [] } ∷ record { name = codes "FORWARD"; policy = Some Drop; rules = [] } ∷ record { name = codes "OUTPUT"; policy = Some Accept; rules = [] } ∷ record { name = codes "x"; policy = None; rules = jumps 4 ∷ [] } ∷ record { name = codes "y"; policy = None; rules = jumps 3 ∷ [] } ∷ [];
      declared = 2 ∷ 3 ∷ 4 ∷ 5 ∷ 6 ∷ [];
      rules = 2;
    })
unfolding text_said line_of_words body_line_of chain_line_of is_comment is_user_name is_reserved with_policy with_rule rule_line_of is_count word_step is_bang option_of with_value text_of is_state states_of target_of with_module prefix_of octet address_text prefix_text number digits
row_loop = refl

abbrev established : StateMatch
established = record { new = false; established = true; negated = false }

abbrev at_prefix : ℕ → ℕ → AddrMatch
at_prefix a len = record { prefix = prefix_with a len; negated = false }

abbrev off_prefix : ℕ → ℕ → AddrMatch
off_prefix a len = record { prefix = prefix_with a len; negated = true }

-- A file written by iptables-save.
row_saved : text_said (text_of_lines (codes "# Generated by iptables-save v1.8.9 on Tue Mar  4 10:00:00 2025" ∷ codes "*filter" ∷ codes ":INPUT ACCEPT [120:9800]" ∷ codes ":FORWARD DROP [3:180]" ∷ codes ":OUTPUT ACCEPT [98:7700]" ∷ codes ":office - [0:0]" ∷ codes "[10:840] -A INPUT -m conntrack --ctstate RELATED,ESTABLISHED -j ACCEPT" ∷ codes "[4:240] -A FORWARD -s 192.168.1.0/24 -m comment --comment \"from the office\" -j office" ∷ codes "[2:120] -A FORWARD -d 192.168.1.0/24 -m conntrack --ctstate RELATED,ESTABLISHED -j ACCEPT" ∷ codes "[1:60] -A FORWARD -j REJECT --reject-with icmp-port-unreachable" ∷ codes "[1:60] -A office -d 10.9.0.0/16 -j RETURN" ∷ codes "[3:180] -A office ! -d 192.168.0.0/16 -j ACCEPT" ∷ codes "COMMIT" ∷ codes "# Completed on Tue Mar  4 10:00:00 2025" ∷ []))
    ≡ Ok (record {
      stage = After;
      chains = record { name = codes "INPUT"; policy = Some Accept; rules = record { src = None; dst = None; proto = None; sport = None; dport = None; state = Some established; target = Accepts } ∷ [] }
          ∷ record { name = codes "FORWARD"; policy = Some Drop; rules = record { src = Some (at_prefix 3232235776 24); dst = None; proto = None; sport = None; dport = None; state = None; target = Jump 3 } ∷ record { src = None; dst = Some (at_prefix 3232235776 24); proto = None; sport = None; dport = None; state = Some established; target = Accepts } ∷ record { src = None; dst = None; proto = None; sport = None; dport = None; state = None; target = Reject } ∷ [] }
          ∷ record { name = codes "OUTPUT"; policy = Some Accept; rules = [] }
          ∷ record { name = codes "office"; policy = None; rules = record { src = None; dst = Some (at_prefix 168361984 16); proto = None; sport = None; dport = None; state = None; target = Return } ∷ record { src = None; dst = Some (off_prefix 3232235520 16); proto = None; sport = None; dport = None; state = None; target = Accepts } ∷ [] }
          ∷ [];
      declared = 3 ∷ 4 ∷ 5 ∷ 6 ∷ [];
      rules = 6;
    })
unfolding text_said line_of_words body_line_of chain_line_of is_comment is_user_name is_reserved with_policy with_rule rule_line_of is_count word_step is_bang option_of with_value text_of is_state states_of target_of with_module prefix_of octet address_text prefix_text number digits
row_saved = refl
