-- The grammar of rulesets in iptables-save format: the meaning of each line, and the options of a rule line (iptables-save(8),
-- iptables-restore(8)).
use Rattle.std.specs.Prelude.{◌≡◌, ℕ, ◌+◌, ◌<◌, ◌≤◌, ◌^◌, Bool, true, false, IsTrue, IsFalse, List, [], ◌∷◌, ◌++◌, Some, None, length, codes, slice_set, unwrap_or, ◌⊎◌}
use Rattle.host_net.specs.declared.prefix.Prefix.{Prefix}
use Rattle.host_net.specs.PrefixView.{IsSpelling}
use Rattle.host_net.specs.ServiceText.{protocol_text}
use Rattle.ipt_rules.specs.declared.rule.ProtoMatch.{ProtoMatch}
use Rattle.ipt_rules.specs.declared.rule.Policy.{Policy}
use Rattle.ipt_rules.specs.declared.rule.Rule.{Rule}
use Rattle.ipt_rules.specs.declared.rule.Target.{Target}
use Rattle.ipt_rules.specs.declared.rule.Target.TheVariants.{Count, Jump}
use Rattle.ipt_rules.specs.Chain.{Chain, number_of, user_chain, with_policy, with_rule}
use Rattle.ipt_rules.specs.ChainTable.{chain_limit, rule_limit}
use Rattle.ipt_rules.specs.Name.{is_user_name}
use Rattle.ipt_rules.specs.RuleParts.{names_ports}
use Rattle.ipt_rules.specs.Text.{policy_text}
use Rattle.ipt_read.specs.Options.{PartialRule, empty_rule, Row, row_of, is_repeated_or_negated, named_target}
use Rattle.ipt_read.specs.ParserStates.{Front, Table, After, ParserState, line_of}
use Rattle.ipt_read.specs.ServiceValues.{IsProtocolWord, ArePortsWord}
use Rattle.ipt_read.specs.Values.{IsCounter, IsText, IsStateList}

-- An option of that name, negated by `!` or not, is allowed after the partial rule.
pub record Stands (given : PartialRule) (negated : Bool) (name : List ℕ) (row : Row) : Type 0 where
  pub named : row_of name ≡ Some row
  pub here : IsTrue (row.stands given)
  pub free : IsFalse (is_repeated_or_negated given negated row)

-- The value of an option of that name, negated by `!` or not, and the partial rule after it.
pub data IsValue (chains : List Chain) (given : PartialRule) (negated : Bool) : List ℕ → List (List ℕ) → PartialRule → Type 0 where
  source : {w : List ℕ} (p : Prefix) → p.addr < 2 ^ 32 → IsSpelling w p → IsValue chains given negated (codes "-s") (w ∷ [])
      (record given { rule = record given.rule { src = Some (record { prefix = p; negated = negated }) } })
  destination : {w : List ℕ} (p : Prefix) → p.addr < 2 ^ 32 → IsSpelling w p → IsValue chains given negated (codes "-d") (w ∷ [])
      (record given { rule = record given.rule { dst = Some (record { prefix = p; negated = negated }) } })
  protocol : {w : List ℕ} (proto : ℕ) → IsProtocolWord w proto → IsValue chains given negated (codes "-p") (w ∷ [])
      (record given { rule = record given.rule { proto = Some (record { proto = proto; negated = negated }) } })
  source_port : {w : List ℕ} (low high : ℕ) → ArePortsWord w low high → IsValue chains given negated (codes "--sport") (w ∷ [])
      (record given { rule = record given.rule { sport = Some (record { low = low; high = high; negated = negated }) } })
  destination_port : {w : List ℕ} (low high : ℕ) → ArePortsWord w low high → IsValue chains given negated (codes "--dport") (w ∷ [])
      (record given { rule = record given.rule { dport = Some (record { low = low; high = high; negated = negated }) } })
  states : {name w : List ℕ} (new established : Bool) → (name ≡ codes "--ctstate") ⊎ (name ≡ codes "--state") → IsStateList w new established
      → IsValue chains given negated name (w ∷ []) (record given { rule = record given.rule { state = Some (record { new = new; established = established; negated = negated }) } })
  conntrack_module : IsValue chains given negated (codes "-m") (codes "conntrack" ∷ []) (record given { conntrack = true })
  state_module : IsValue chains given negated (codes "-m") (codes "state" ∷ []) (record given { states = true })
  comment_module : IsValue chains given negated (codes "-m") (codes "comment" ∷ []) (record given { comments = true })
  -- The module with the port options is named after the protocol, `tcp` or `udp`, that the rule matches on.
  own_module : (part : ProtoMatch) → given.rule.proto ≡ Some part → IsTrue (names_ports (Some part))
      → IsValue chains given negated (codes "-m") (protocol_text part.proto ∷ []) (record given { ports = true })
  target : {w : List ℕ} (t : Target) → named_target w ≡ Some t → IsValue chains given negated (codes "-j") (w ∷ []) (record given { target = Some t })
  -- A jump to a declared user chain.
  jump : {w : List ℕ} (c : ℕ) → named_target w ≡ None → number_of chains w ≡ Some c → 3 ≤ c
      → IsValue chains given negated (codes "-j") (w ∷ []) (record given { target = Some (Jump c) })
  -- Options without effect on the rule: a string; the reject type or the log level, in one token.
  a_text : {name : List ℕ} {ws : List (List ℕ)} → (name ≡ codes "--comment") ⊎ (name ≡ codes "--log-prefix") → IsText ws → IsValue chains given negated name ws given
  a_word : {name w : List ℕ} → (name ≡ codes "--reject-with") ⊎ (name ≡ codes "--log-level") → IsValue chains given negated name (w ∷ []) given

-- An option with its value, optionally after `!`.
pub data IsPiece (chains : List Chain) (given : PartialRule) : List (List ℕ) → PartialRule → Type 0 where
  plain : {name : List ℕ} {row : Row} {value : List (List ℕ)} {now : PartialRule} → Stands given false name row
      → IsValue chains given false name value now → IsPiece chains given (name ∷ value) now
  turned : {name : List ℕ} {row : Row} {value : List (List ℕ)} {now : PartialRule} → given.target ≡ None → Stands given true name row
      → IsValue chains given true name value now → IsPiece chains given (codes "!" ∷ name ∷ value) now

-- A sequence of options, each of which is allowed after those before it.
pub data AreOptionWords (chains : List Chain) : PartialRule → List (List ℕ) → PartialRule → Type 0 where
  none_left : {given : PartialRule} → AreOptionWords chains given [] given
  one_more : {given now then_given : PartialRule} {ws vs : List (List ℕ)} → IsPiece chains given ws now
      → AreOptionWords chains now vs then_given → AreOptionWords chains given (ws ++ vs) then_given

-- Packet and byte counters at the front of the line, or nothing.
abbrev pub IsOptionalCounter : List (List ℕ) → Type 0
IsOptionalCounter front = (front ≡ []) ⊎ ((count : List ℕ) × IsCounter count × (front ≡ count ∷ []))

-- The tokens of a rule line: optional counters, then `-A`, the name of a chain, and options.
abbrev pub IsAppend : List (List ℕ) → (name : List ℕ) → (pieces : List (List ℕ)) → Type 0
IsAppend ws name pieces = (front : List (List ℕ)) × IsOptionalCounter front × (ws ≡ front ++ (codes "-A" ∷ name ∷ pieces))

-- A rule line: its chain exists, and its options yield the rule. Without a target the rule only counts packets.
pub record IsRuleLine (chains : List Chain) (ws : List (List ℕ)) (c : ℕ) (rule : Rule) : Type 0 where
  pub name : List ℕ
  pub pieces : List (List ℕ)
  pub given : PartialRule
  pub written : IsAppend ws name pieces
  pub number : number_of chains name ≡ Some c
  pub fit : AreOptionWords chains empty_rule pieces given
  pub same : rule ≡ record given.rule { target = unwrap_or given.target Count }

-- The tokens of a chain line: `:` (58) and the name in one token, the policy, optional counters.
abbrev pub IsChainLine : List (List ℕ) → (name policy : List ℕ) → Type 0
IsChainLine ws name policy = (behind : List (List ℕ)) × IsOptionalCounter behind × (ws ≡ (58 ∷ name) ∷ policy ∷ behind)

-- Line n, by its tokens: a transition from the parser state before the line to the parser state after it.
pub data IsLine (n : ℕ) (s : ParserState) : List (List ℕ) → ParserState → Type 0 where
  table : s.stage ≡ Front → IsLine n s (codes "*filter" ∷ []) (record s { stage = Table })
  built_in : {ws : List (List ℕ)} {name : List ℕ} {c : ℕ} (policy : Policy) → s.stage ≡ Table
      → IsChainLine ws name (policy_text (Some policy)) → number_of s.chains name ≡ Some c → c < 3 → line_of s.declared c ≡ 0
      → IsLine n s ws (record s { chains = with_policy s.chains c policy; declared = slice_set s.declared c n })
  user : {ws : List (List ℕ)} {name : List ℕ} → s.stage ≡ Table → IsChainLine ws name (policy_text None)
      → number_of s.chains name ≡ None → IsTrue (is_user_name name) → length s.chains < chain_limit
      → IsLine n s ws (record s { chains = s.chains ++ user_chain name ∷ []; declared = s.declared ++ n ∷ [] })
  rule : {ws : List (List ℕ)} {c : ℕ} {r : Rule} → s.stage ≡ Table → IsRuleLine s.chains ws c r → s.rules < rule_limit
      → IsLine n s ws (record s { chains = with_rule s.chains c r; rules = s.rules + 1 })
  commit : s.stage ≡ Table → IsLine n s (codes "COMMIT" ∷ []) (record s { stage = After })
