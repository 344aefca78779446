-- Domains: `path` is a path of the hierarchy; `trust`, an integer up to 16, is 0 if absent. The keys of an assign of
-- this template: docs/FORMATS.md.
use Rattle.std.specs.Prelude.{[], ◌∷◌, Option, Some, None, option_map, codes, unwrap_or, if◌then◌else◌}
use Rattle.inv_any.specs.declared.any_inv.AnyInv.TheVariants as any
use Rattle.table_core.specs.Tables.{number_at, text_at}
use Rattle.text_core.specs.Steps.{◌>>=◌}
use Rattle.tmpl_domains.specs.Domains.{Place, domains}
use Rattle.tmpl_domains.specs.Path.{is_path, segments}
use Rattle.toml.specs.Data.{Members}
use Rattle.attr_core.specs.Alone.{alone}
use Rattle.attr_core.specs.Forms.{Form}
use Rattle.table_core.specs.Keys.{Number, Text, needed, optional}

-- The position that a table specifies, if its path is valid.
unfoldable pub domains_attribute : Members → Option Place
domains_attribute table = do
  path ← text_at (codes "path") table
  if is_path path then Some (record { path = segments path; trust = unwrap_or (number_at 16 (codes "trust") table) 0 }) else None

-- The attribute format of the template.
abbrev pub domains_form : Form
domains_form =
    alone domains (needed (codes "path") Text ∷ optional (codes "trust") (Number 16) ∷ [])
    (λ hosts host table. option_map Some (domains_attribute table)) any.Domains
