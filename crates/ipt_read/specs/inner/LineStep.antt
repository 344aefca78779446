-- Parsing one line, from its first token on: the parser state after it, or the reason why it is rejected. Callers do not see this; they use
-- `Grammar` and `LineFault`.
use Rattle.std.specs.Prelude.{ℕ, ◌+◌, Bool, true, false, ◌&&◌, ◌||◌, not, ◌==◌, nat_lt, nat_le, if◌then◌else◌, List, [], ◌∷◌, ◌++◌, Option, Some, None, Result, Ok, Err, length, drop, codes, bytes_eq, slice_set}
use Rattle.text_core.specs.Lines.{words, begins_with}
use Rattle.ipt_rules.specs.declared.rule.Policy.{Policy}
use Rattle.ipt_rules.specs.declared.rule.Policy.TheVariants.{Accept, Drop}
use Rattle.ipt_rules.specs.declared.rule.Rule.{Rule}
use Rattle.ipt_rules.specs.Chain.{user_chain, with_policy, with_rule, number_of}
use Rattle.ipt_rules.specs.ChainTable.{chain_limit, rule_limit}
use Rattle.ipt_rules.specs.Name.{is_user_name}
use Rattle.ipt_read.specs.declared.fault.IptWhy.{IptWhy}
use Rattle.ipt_read.specs.declared.fault.IptWhy.TheVariants.{BadLine, OtherTable, BadChain, AfterCommit, TooMany}
use Rattle.ipt_read.specs.inner.Counts.{is_count}
use Rattle.ipt_read.specs.inner.RuleLine.{rule_line_of}
use Rattle.ipt_read.specs.ParserStates.{Stage, Front, Table, After, ParserState, line_of}

abbrev pub no_words : List (List ℕ) → Bool
no_words [] = true
no_words (w ∷ ws) = false

-- Before the table: the line `*filter`.
abbrev pub table_line_of : ParserState → List ℕ → List (List ℕ) → Result ParserState IptWhy
table_line_of s w ws =
    if not (begins_with 42 w) then Err BadLine
    else if not (bytes_eq w (codes "*filter")) then Err OtherTable
    else if not (no_words ws) then Err BadLine
    else Ok (record s { stage = Table })

-- The policy of a chain line: one token, with optional counters after it.
abbrev pub policy_word : List (List ℕ) → Option (List ℕ)
policy_word (p ∷ []) = Some p
policy_word (p ∷ count ∷ []) = if is_count count then Some p else None
policy_word _ = None

abbrev pub built_in_policy : List ℕ → Option Policy
built_in_policy word =
    if bytes_eq word (codes "ACCEPT") then Some Accept else if bytes_eq word (codes "DROP") then Some Drop else None

abbrev pub with_built_in : ℕ → ParserState → ℕ → Option Policy → Result ParserState IptWhy
with_built_in n s c None = Err BadChain
with_built_in n s c (Some policy) =
    if nat_lt c 3 && (line_of s.declared c == 0)
    then Ok (record s { chains = with_policy s.chains c policy; declared = slice_set s.declared c n })
    else Err BadChain

-- A chain line: of a built-in chain without a chain line so far, or of a user chain with a new name.
abbrev pub declare : ℕ → ParserState → List ℕ → List ℕ → Option ℕ → Result ParserState IptWhy
declare n s name policy (Some c) = with_built_in n s c (built_in_policy policy)
declare n s name policy None =
    if not (is_user_name name && bytes_eq policy (codes "-")) then Err BadChain
    else if nat_le chain_limit (length s.chains) then Err TooMany
    else Ok (record s { chains = s.chains ++ user_chain name ∷ []; declared = s.declared ++ n ∷ [] })

abbrev pub declare_by : ℕ → ParserState → List ℕ → Option (List ℕ) → Result ParserState IptWhy
declare_by n s name None = Err BadChain
declare_by n s name (Some policy) = declare n s name policy (number_of s.chains name)

unfoldable pub chain_line_of : ℕ → ParserState → List ℕ → List (List ℕ) → Result ParserState IptWhy
chain_line_of n s w ws = declare_by n s (drop 1 w) (policy_word ws)

-- One more rule, within the limit.
abbrev pub with_read_rule : ParserState → Result (ℕ × Rule) IptWhy → Result ParserState IptWhy
with_read_rule s (Err why) = Err why
with_read_rule s (Ok r) =
    if nat_le rule_limit s.rules then Err TooMany else Ok (record s { chains = with_rule s.chains r.0 r.1; rules = s.rules + 1 })

-- The line COMMIT.
abbrev pub commit_line_of : ParserState → List ℕ → List (List ℕ) → Result ParserState IptWhy
commit_line_of s w ws =
    if not (bytes_eq w (codes "COMMIT")) then Err BadLine else if not (no_words ws) then Err BadLine else Ok (record s { stage = After })

-- Within the table: a chain line begins with `:` (58), a rule line with `-A` or `[` (91), and COMMIT ends the table.
unfoldable pub body_line_of : ℕ → ParserState → List ℕ → List (List ℕ) → Result ParserState IptWhy
body_line_of n s w ws =
    if begins_with 58 w then chain_line_of n s w ws
    else if bytes_eq w (codes "-A") || begins_with 91 w then with_read_rule s (rule_line_of s.chains (w ∷ ws))
    else commit_line_of s w ws

-- A line that is no comment, by the position in the file.
abbrev pub line_at : Stage → ℕ → ParserState → List ℕ → List (List ℕ) → Result ParserState IptWhy
line_at Front n s w ws = table_line_of s w ws
line_at Table n s w ws = body_line_of n s w ws
line_at After n s w ws = Err AfterCommit

unfoldable pub line_of_words : ℕ → ParserState → List (List ℕ) → Result ParserState IptWhy
line_of_words n s [] = Err BadLine
line_of_words n s (w ∷ ws) = line_at s.stage n s w ws

abbrev pub line_step : ℕ → ParserState → List ℕ → Result ParserState IptWhy
line_step n s line = line_of_words n s (words line)
