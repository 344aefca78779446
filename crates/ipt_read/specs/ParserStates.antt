-- The state of the parser between two lines.
use Rattle.std.specs.Prelude.{ℕ, List, [], ◌∷◌}
use Rattle.std.specs.List.{slice_index_or}
use Rattle.ipt_rules.specs.Chain.{Chain, built_in_chains}

-- The position in the file: before its table, within the table, or after COMMIT.
pub data Stage : Type 0 where
  Front : Stage
  Table : Stage
  After : Stage

-- The parser state: the position, the chains, for each chain the number of its chain line (0 if it has none yet), and the number of rules.
pub record ParserState : Type 0 where
  pub stage : Stage
  pub chains : List Chain
  pub declared : List ℕ
  pub rules : ℕ

-- The initial parser state: before the table, with the built-in chains, without chain lines and rules.
abbrev pub initial_state : ParserState
initial_state = record { stage = Front; chains = built_in_chains; declared = 0 ∷ 0 ∷ 0 ∷ []; rules = 0 }

-- The number of the chain line of a chain.
abbrev pub line_of : List ℕ → ℕ → ℕ
line_of declared c = slice_index_or declared c 0
