-- The iteration over the assigns of a declared template. Nothing here is trusted: OwnTablesLaws relates it to the attribute format.
use Rattle.std.specs.Prelude.{ℕ, List, [], ◌∷◌, Option, None, codes, if◌then◌else◌}
use Rattle.toml.specs.Data.{Members}
use Rattle.attr_core.specs.Assigns.{Given}
use Rattle.attr_core.specs.OwnTables.{kind_numbered}
use Rattle.attr_core.specs.laws.FormLaws.{set_said}
use Rattle.attr_core.specs.Kinds.{kind_key}
use Rattle.attr_core.specs.Shapes.{host_key, of_shape}
use Rattle.table_core.specs.Tables.{text_at}
use Rattle.text_core.specs.Steps.{◌>>=◌}

-- The kind that the table of an assign specifies, if it specifies one.
unfoldable pub kind_of_assign : List (List ℕ) → Members → Option ℕ
kind_of_assign words table = if of_shape table (host_key ∷ kind_key ∷ []) then text_at (codes "kind") table >>= kind_numbered words else None

-- The kinds of the hosts after some assigns.
abbrev pub kinds_after : List (List ℕ) → List ℕ → List Given → List ℕ
kinds_after words xs [] = xs
kinds_after words xs (a ∷ rest) = kinds_after words (set_said xs a.host (kind_of_assign words a.table)) rest
