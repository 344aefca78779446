-- A template that a description declares as a table: an assign specifies a kind by its word. The keys of an assign of
-- such a template: docs/FORMATS.md.
use Rattle.std.specs.Prelude.{ℕ, List, [], ◌∷◌, Option, codes}
use Rattle.std.specs.List.{position_from}
use Rattle.std.specs.Str.{bytes_eq}
use Rattle.inv_any.specs.declared.any_inv.AnyInv.TheVariants as any
use Rattle.tmpl_table.specs.KindTable.{KindTable, declared}
use Rattle.attr_core.specs.Alone.{alone}
use Rattle.attr_core.specs.Forms.{Form}
use Rattle.attr_core.specs.Kinds.{kind_key}
use Rattle.table_core.specs.Tables.{text_at}
use Rattle.text_core.specs.Steps.{◌>>=◌}

-- The words for its kinds, in order, and the table of their numbers.
pub record Declared : Type 0 where
  pub words : List (List ℕ)
  pub table : KindTable

-- The number of a kind, from 0, given by its word.
abbrev pub kind_numbered : List (List ℕ) → List ℕ → Option ℕ
kind_numbered words word = position_from (bytes_eq word) 0 words

-- The attribute format of the template.
abbrev pub table_form : Declared → Form
table_form d =
    alone (declared d.table) (kind_key ∷ []) (λ hosts host table. text_at (codes "kind") table >>= kind_numbered d.words)
    (λ hosts. any.Table (record { table = d.table; hosts = hosts }))
