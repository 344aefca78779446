-- Templates of kinds: the key `kind` has a word, and each template has a row for each of its words.
use Rattle.std.specs.Prelude.{ℕ, List, [], ◌∷◌, Option, option_map, find, codes}
use Rattle.std.specs.Str.{bytes_eq}
use Rattle.inv_any.specs.declared.any_inv.AnyInv.{AnyInv}
use Rattle.inv_law.specs.Template.{Template}
use Rattle.toml.specs.Data.{Members}
use Rattle.attr_core.specs.Alone.{alone}
use Rattle.attr_core.specs.Forms.{Form}
use Rattle.table_core.specs.Keys.{Key, Text, needed}
use Rattle.table_core.specs.Tables.{text_at}
use Rattle.text_core.specs.Steps.{◌>>=◌}

-- The required key `kind`, a string.
abbrev pub kind_key : Key
kind_key = needed (codes "kind") Text

-- The value of the row of a word, if there is one.
abbrev pub kind_named : {K : Type 0} → List (List ℕ × K) → List ℕ → Option K
kind_named rows word = option_map (λ row. row.1) (find (λ row. bytes_eq word row.0) rows)

-- The value of the word of a table.
unfoldable pub kind_in : {K : Type 0} → List (List ℕ × K) → Members → Option K
kind_in rows table = text_at (codes "kind") table >>= kind_named rows

-- A template whose tables specify a kind, and nothing else.
abbrev pub by_kind : (t : Template) → List (List ℕ × t.Attribute) → (List t.Attribute → AnyInv) → Form
by_kind t rows make = alone t (kind_key ∷ []) (λ hosts host table. kind_in rows table) make
