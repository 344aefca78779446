-- The format of a ruleset file: the chains that it defines, and the reasons why a file is rejected.
use Rattle.std.specs.Prelude.{◌≡◌, ◌≢◌, ℕ, List, ◌∷◌, codes}
use Rattle.text_core.specs.Lines.{words}
use Rattle.text_core.specs.LineFormat.{LineFormat, IsReading, HasFault}
use Rattle.ipt_rules.specs.Chain.{Chain}
use Rattle.ipt_rules.specs.Loops.{IsAcyclic, IsFirstOnCycle}
use Rattle.ipt_read.specs.declared.fault.IptWhy.{IptWhy}
use Rattle.ipt_read.specs.declared.fault.IptWhy.TheVariants.{TooLong, BadLine, OtherTable, BadChain, UnknownChain, Interface, UnknownOption, BadValue, UnknownTarget, Loop, NoCommit, AfterCommit, TooMany}
use Rattle.ipt_read.specs.Grammar.{IsLine}
use Rattle.ipt_read.specs.LineFault.{IsBad}
use Rattle.ipt_read.specs.ParserStates.{After, ParserState, initial_state, line_of}

-- The reason why a file ends badly: it ends without COMMIT, reported at the line after its last; or jumps form a cycle, reported at the
-- chain line of the first chain on a cycle.
pub data HasEndFault (next : ℕ) (s : ParserState) : ℕ → IptWhy → Type 0 where
  no_commit : s.stage ≢ After → HasEndFault next s next NoCommit
  loops : (c : ℕ) → s.stage ≡ After → IsFirstOnCycle s.chains c → HasEndFault next s (line_of s.declared c) Loop

-- A ruleset as a line-oriented format: it ends with COMMIT, and its jumps are acyclic.
abbrev pub rules_text : LineFormat ParserState IptWhy
rules_text = record {
  byte_limit = 67108864;
  too_long_reason = TooLong;
  start = initial_state;
  IsLine = λ n s line t. IsLine n s (words line) t;
  IsBadLine = λ n s line why. (w : List ℕ) × (ws : List (List ℕ)) × (words line ≡ w ∷ ws) × IsBad s w ws why;
  MayEndIn = λ s. (s.stage ≡ After) × IsAcyclic s.chains;
  HasEndFault = HasEndFault;
}

-- The parse result of a file.
abbrev pub IsReadingOfRules : List ℕ → List Chain → Type 0
IsReadingOfRules bytes chains = (s : ParserState) × IsReading rules_text bytes s × (chains ≡ s.chains)

-- The first error of a file.
abbrev pub HasFaultInRules : List ℕ → ℕ → IptWhy → Type 0
HasFaultInRules = HasFault rules_text

-- The name of a reason, as it is printed.
abbrev pub rules_reason : IptWhy → List ℕ
rules_reason TooLong = codes "TooLong"
rules_reason BadLine = codes "BadLine"
rules_reason OtherTable = codes "OtherTable"
rules_reason BadChain = codes "BadChain"
rules_reason UnknownChain = codes "UnknownChain"
rules_reason Interface = codes "Interface"
rules_reason UnknownOption = codes "UnknownOption"
rules_reason BadValue = codes "BadValue"
rules_reason UnknownTarget = codes "UnknownTarget"
rules_reason Loop = codes "Loop"
rules_reason NoCommit = codes "NoCommit"
rules_reason AfterCommit = codes "AfterCommit"
rules_reason TooMany = codes "TooMany"
