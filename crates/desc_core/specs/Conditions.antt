-- The conditions on the table of a description in order, and the size limit (the description's format,
-- docs/FORMATS.md).
use Rattle.std.specs.Prelude.{ℕ, List, ◌++◌, Option}
use Rattle.toml.specs.Data.{Members}
use Rattle.desc_core.specs.UseConditions.{use_conditions}
use Rattle.desc_form.specs.FormConditions.{form_conditions}
use Rattle.desc_form.specs.RawDescription.{written}
use Rattle.desc_form.specs.declared.refusal.Refusal.{Refusal}
use Rattle.desc_form.specs.HostConditions.{host_conditions}

-- The greatest size of a description, in bytes.
abbrev pub byte_limit : ℕ
byte_limit = 1048576

-- The conditions on a table, from 3 on, with the refusal of each.
unfoldable pub table_conditions : Members → List (Option Refusal)
table_conditions table = form_conditions table ++ (host_conditions (written table) ++ use_conditions (written table))
