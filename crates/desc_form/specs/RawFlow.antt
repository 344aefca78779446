-- A raw flow: an array of two strings, followed by the strings of its services (the description's format, docs/FORMATS.md).
use Rattle.std.specs.Prelude.{ℕ, List, ◌∷◌, Option, Some, None}
use Rattle.toml.specs.Data.{Data, as_str}
use Rattle.table_core.specs.Listing.{each}
use Rattle.table_core.specs.Tables.{elements_of}
use Rattle.text_core.specs.Steps.{◌>>=◌}

-- The names of its two hosts, and the services to which it is restricted; an unrestricted flow has none.
pub record RawFlow : Type 0 where
  pub from : List ℕ
  pub to : List ℕ
  pub services : List (List ℕ)

-- Two names, followed by services.
abbrev pub flow_of_texts : List (List ℕ) → Option RawFlow
flow_of_texts (from ∷ to ∷ services) = Some (record { from = from; to = to; services = services })
flow_of_texts _ = None

-- The flow of a list of values, if each of them is a string.
abbrev pub flow_of_values : List Data → Option RawFlow
flow_of_values ds = each as_str ds >>= flow_of_texts

-- The flow of an array, for every version.
unfoldable pub raw_flow : Data → Option RawFlow
raw_flow d = elements_of d >>= flow_of_values
