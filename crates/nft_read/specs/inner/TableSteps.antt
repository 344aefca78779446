-- Parsing a table line by line.
use Rattle.std.specs.Prelude.{ℕ, if◌then◌else◌, List, [], ◌∷◌, ◌++◌, Option, Some, None, length, map, codes, bytes_eq, nat_lt, Bool, ◌&&◌}
use Rattle.std.specs.Option.{option_and_then}
use Rattle.nft_rules.specs.Loadable.{is_service_match}
use Rattle.nft_space.specs.inner.Checks.{are_elements, is_chain_name, leads_below}
use Rattle.nft_read.specs.declared.reader.Phase.{Phase}
use Rattle.nft_read.specs.declared.reader.Phase.TheVariants.{Start, Between, Base, Within, Blank, Forward, Closed, Done}
use Rattle.nft_read.specs.Shape.{ChainShape, RuleShape, TableShape, MapOf, MatchOf}
use Rattle.nft_read.specs.inner.LineSteps.{after, index_of, rule_of, word}

-- The place in the text, the name and the rules of the current chain, and the chains before it.
pub record State : Type 0 where
  pub phase : Phase
  pub name : List ℕ
  pub rules : List RuleShape
  pub chains : List ChainShape

abbrev pub start : State
start = record { phase = Start; name = []; rules = []; chains = [] }

abbrev pub names_of : List ChainShape → List (List ℕ)
names_of chains = map (λ (x : ChainShape). x.name) chains

-- The line is this one, and the next phase begins.
abbrev pub expected : State → List ℕ → List ℕ → Phase → Option State
expected s line text phase = if bytes_eq line text then Some (record s { phase = phase }) else None

abbrev pub opened_by : State → Option (List ℕ) → Option State
opened_by s None = None
opened_by s (Some text) = if is_chain_name (word text) then Some (record s { phase = Within; name = word text; rules = [] }) else None

abbrev pub opened : State → List ℕ → Option State
opened s line = if bytes_eq line (codes "\tchain forward {") then Some (record s { phase = Base }) else opened_by s (after (codes "\tchain ") line)

-- The current chain is the next one.
abbrev pub pushed : State → State
pushed s = record { phase = Blank; name = []; rules = []; chains = s.chains ++ record { name = s.name; rules = s.rules } ∷ [] }

abbrev pub closed_by : State → Option ℕ → Option State
closed_by s (Some other) = None
closed_by s None = Some (pushed s)

-- No other chain has its name, and there are not too many chains.
abbrev pub closed : State → Option State
closed s = if nat_lt (length s.chains) 100000 then closed_by s (index_of (names_of s.chains) s.name) else None

-- The rule is valid after n chains.
abbrev pub is_shape : ℕ → RuleShape → Bool
is_shape n (MapOf end es) = are_elements n es
is_shape n (MatchOf r) = is_service_match r.service && leads_below n r.verdict

abbrev pub with_shape : State → RuleShape → Option State
with_shape s r = if is_shape (length s.chains) r then Some (record s { rules = s.rules ++ r ∷ [] }) else None

abbrev pub with_rule : State → List ℕ → Option State
with_rule s line = option_and_then (with_shape s) (rule_of (names_of s.chains) line)

abbrev pub step_in : Phase → State → List ℕ → Option State
step_in Start s line = expected s line (codes "table ip topos {") Between
step_in Between s line = opened s line
step_in Base s line = expected s line (codes "\t\ttype filter hook forward priority filter; policy drop;") Forward
step_in Within s line = if bytes_eq line (codes "\t}") then closed s else with_rule s line
step_in Blank s line = expected s line [] Between
step_in Forward s line = if bytes_eq line (codes "\t}") then Some (record s { phase = Closed }) else with_rule s line
step_in Closed s line = expected s line (codes "}") Done
step_in Done s line = None

unfoldable pub step : State → List ℕ → Option State
step s line = step_in s.phase s line

-- The state after all lines, or none if a line is bad.
abbrev pub run : State → List (List ℕ) → Option State
run s [] = Some s
run s (line ∷ lines) = option_and_then (λ t. run t lines) (step s line)

-- The state after the last line of a table.
abbrev pub done_state : TableShape → State
done_state shape = record { phase = Done; name = []; rules = shape.forward; chains = shape.chains }
