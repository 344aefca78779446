-- A raw template: the names of its kinds, and the pairs of kinds that are denied (the description's format, docs/FORMATS.md).
use Rattle.std.specs.Prelude.{ℕ, ◌==◌, if◌then◌else◌, List, length, Option, Some, None}
use Rattle.toml.specs.Data.{Data}
use Rattle.desc_form.specs.RawFlow.{RawFlow, raw_flow}
use Rattle.text_core.specs.Steps.{◌>>=◌}

-- The kinds of a sender and a receiver.
pub record RawPair : Type 0 where
  pub sender : List ℕ
  pub receiver : List ℕ

-- A raw template: its name, its strategy, its kinds, its default kind, and the denied pairs.
pub record RawTemplate : Type 0 where
  pub name : List ℕ
  pub strategy : List ℕ
  pub kinds : List (List ℕ)
  pub default : List ℕ
  pub deny : List RawPair

-- A pair has the form of a flow without services.
abbrev pub pair_of_flow : RawFlow → Option RawPair
pair_of_flow f = if length f.services == 0 then Some (record { sender = f.from; receiver = f.to }) else None

-- The pair of an array of two strings.
unfoldable pub raw_pair : Data → Option RawPair
raw_pair d = raw_flow d >>= pair_of_flow
