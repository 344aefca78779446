-- The parser state between two lines, for the contracts of private calls. Callers do not see this.
use Rattle.std.specs.Prelude.{◌≡◌, ◌≤◌, Result, Ok, Err, MatchResult, length}
use Rattle.text_core.specs.inner.TextAnswers.{HasReason}
use Rattle.text_core.specs.declared.faults.LineFault.{LineFault}
use Rattle.ipt_rules.specs.ChainTable.{rule_count, chain_limit, rule_limit}
use Rattle.ipt_read.specs.declared.fault.IptWhy.{IptWhy}
use Rattle.ipt_read.specs.declared.reader.Reader.{Reader}
use Rattle.ipt_read.specs.ParserStates.{ParserState}
use Rattle.ipt_read.specs.inner.Goes.{EachGoes}
use Rattle.ipt_read.specs.inner.ReaderView.{stage_of}

abbrev pub said_of : Reader → ParserState
said_of r = record { stage = stage_of r.stage; chains = r.chains; declared = r.declared.items; rules = r.rules }

-- The result for a line, compared with the result of its step.
abbrev pub AnswersTo : Result ParserState IptWhy → Result Reader (LineFault IptWhy) → Type 0
AnswersTo said r = MatchResult r (λ t. said ≡ Ok (said_of t)) (HasReason (λ why. said ≡ Err why))

-- The invariant of the parser state.
pub record IsFine (s : ParserState) : Type 0 where
  pub few_chains : length s.chains ≤ chain_limit
  pub few_rules : s.rules ≤ rule_limit
  pub counted : s.rules ≡ rule_count s.chains
  pub numbered : length s.declared ≡ length s.chains
  pub goes : EachGoes (length s.chains) s.chains
