-- The reasons why a line is rejected at its position (iptables-restore(8)).
use Rattle.std.specs.Prelude.{◌≡◌, ◌≢◌, ◌<◌, ◌≤◌, ◌⊎◌, ℕ, Bool, true, false, IsTrue, IsFalse, List, [], ◌∷◌, ◌++◌, Some, None, length, codes}
use Rattle.text_core.specs.Lines.{begins_with}
use Rattle.ipt_rules.specs.declared.rule.Policy.{Policy}
use Rattle.ipt_rules.specs.declared.rule.Rule.{Rule}
use Rattle.ipt_rules.specs.Chain.{Chain, number_of}
use Rattle.ipt_rules.specs.ChainTable.{chain_limit, rule_limit}
use Rattle.ipt_rules.specs.Name.{is_user_name}
use Rattle.ipt_rules.specs.Text.{policy_text}
use Rattle.ipt_read.specs.declared.fault.IptWhy.{IptWhy}
use Rattle.ipt_read.specs.declared.fault.IptWhy.TheVariants.{BadLine, OtherTable, BadChain, UnknownChain, UnknownOption, Interface as AnInterface, BadValue, AfterCommit, TooMany}
use Rattle.ipt_read.specs.Options.{PartialRule, empty_rule, Row, row_of, is_repeated_or_negated}
use Rattle.ipt_read.specs.ParserStates.{Front, Table, After, ParserState, line_of}
use Rattle.ipt_read.specs.Grammar.{Stands, IsValue, AreOptionWords, IsAppend, IsRuleLine, IsChainLine}

-- 1. Rule lines.

-- Interface matches, which are not supported.
abbrev pub IsInterface : List ℕ → Type 0
IsInterface name = (name ≡ codes "-i") ⊎ (name ≡ codes "-o")

-- The reason why the tokens at the position of an option, negated by `!` or not, are no option with its value: it is an interface match
-- before the target; otherwise, no option of that name is allowed; or it is repeated or must not be negated; or no valid value follows it.
pub data HasOptionFaultAt (chains : List Chain) (given : PartialRule) (negated : Bool) (name : List ℕ) : List (List ℕ) → IptWhy → Type 0 where
  interface : {ws : List (List ℕ)} → IsInterface name → given.target ≡ None → HasOptionFaultAt chains given negated name ws AnInterface
  unknown : {ws : List (List ℕ)} → (IsInterface name → given.target ≢ None) → ((row : Row) → row_of name ≡ Some row → IsFalse (row.stands given))
      → HasOptionFaultAt chains given negated name ws UnknownOption
  barred : {ws : List (List ℕ)} (row : Row) → row_of name ≡ Some row → IsTrue (row.stands given) → IsTrue (is_repeated_or_negated given negated row)
      → HasOptionFaultAt chains given negated name ws BadLine
  value_missing : (row : Row) → Stands given negated name row → HasOptionFaultAt chains given negated name [] BadValue
  bad_value : {w : List ℕ} {ws : List (List ℕ)} (row : Row) → Stands given negated name row
      → ((value rest : List (List ℕ)) (now : PartialRule) → w ∷ ws ≡ value ++ rest → IsValue chains given negated name value now → ⊥)
      → HasOptionFaultAt chains given negated name (w ∷ ws) row.refusal

-- The reason why the tokens after a partial rule do not begin with an option. `!` is allowed only before the target.
pub data IsStuck (chains : List Chain) (given : PartialRule) : List (List ℕ) → IptWhy → Type 0 where
  bare_option : {name : List ℕ} {ws : List (List ℕ)} {why : IptWhy} → (given.target ≡ None → name ≢ codes "!")
      → HasOptionFaultAt chains given false name ws why → IsStuck chains given (name ∷ ws) why
  bang_option : {name : List ℕ} {ws : List (List ℕ)} {why : IptWhy} → given.target ≡ None → HasOptionFaultAt chains given true name ws why
      → IsStuck chains given (codes "!" ∷ name ∷ ws) why
  bang_last : given.target ≡ None → IsStuck chains given (codes "!" ∷ []) BadLine

-- The reason why tokens are no rule line: `-A` and a chain are missing, after optional counters; or the chain does not exist; or parsing
-- the options fails.
pub data IsBadRule (chains : List Chain) (ws : List (List ℕ)) : IptWhy → Type 0 where
  not_begun : ((name : List ℕ) (pieces : List (List ℕ)) → IsAppend ws name pieces → ⊥) → IsBadRule chains ws BadLine
  no_chain : (name : List ℕ) (pieces : List (List ℕ)) → IsAppend ws name pieces → number_of chains name ≡ None → IsBadRule chains ws UnknownChain
  stuck : {why : IptWhy} (name : List ℕ) (c : ℕ) (read rest : List (List ℕ)) (given : PartialRule) → IsAppend ws name (read ++ rest)
      → number_of chains name ≡ Some c → AreOptionWords chains empty_rule read given → IsStuck chains given rest why → IsBadRule chains ws why

-- 2. Lines.

-- A chain line that is allowed, apart from the limit on chains.
pub data MayDeclare (s : ParserState) (ws : List (List ℕ)) : Type 0 where
  a_built_in : (name : List ℕ) (policy : Policy) (c : ℕ) → IsChainLine ws name (policy_text (Some policy))
      → number_of s.chains name ≡ Some c → c < 3 → line_of s.declared c ≡ 0 → MayDeclare s ws
  a_user : (name : List ℕ) → IsChainLine ws name (policy_text None) → number_of s.chains name ≡ None → IsTrue (is_user_name name)
      → MayDeclare s ws

-- The first token of a rule line.
abbrev pub BeginsRule : List ℕ → Type 0
BeginsRule w = (w ≡ codes "-A") ⊎ IsTrue (begins_with 91 w)

-- The reason why a line of these tokens is rejected in this parser state. Before the table only the line `*filter` is allowed. Within the
-- table a chain line begins with `:` (58), a rule line as defined above, and every other line must be COMMIT.
pub data IsBad (s : ParserState) (w : List ℕ) (ws : List (List ℕ)) : IptWhy → Type 0 where
  no_table : s.stage ≡ Front → IsFalse (begins_with 42 w) → IsBad s w ws BadLine
  other_table : s.stage ≡ Front → IsTrue (begins_with 42 w) → w ≢ codes "*filter" → IsBad s w ws OtherTable
  behind_table : s.stage ≡ Front → w ≡ codes "*filter" → ws ≢ [] → IsBad s w ws BadLine
  bad_chain : s.stage ≡ Table → IsTrue (begins_with 58 w) → (MayDeclare s (w ∷ ws) → ⊥) → IsBad s w ws BadChain
  many_chains : s.stage ≡ Table → (name : List ℕ) → IsChainLine (w ∷ ws) name (policy_text None) → number_of s.chains name ≡ None
      → IsTrue (is_user_name name) → chain_limit ≤ length s.chains → IsBad s w ws TooMany
  bad_rule : {why : IptWhy} → s.stage ≡ Table → BeginsRule w → IsBadRule s.chains (w ∷ ws) why → IsBad s w ws why
  many_rules : s.stage ≡ Table → BeginsRule w → (c : ℕ) (r : Rule) → IsRuleLine s.chains (w ∷ ws) c r → rule_limit ≤ s.rules → IsBad s w ws TooMany
  other_line : s.stage ≡ Table → IsFalse (begins_with 58 w) → (BeginsRule w → ⊥) → w ∷ ws ≢ codes "COMMIT" ∷ [] → IsBad s w ws BadLine
  after_commit : s.stage ≡ After → IsBad s w ws AfterCommit
