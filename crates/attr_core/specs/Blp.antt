-- Bell-LaPadula: `level`, an integer up to 65,535, is 0 if absent; `trusted` is false if absent. The keys of an assign
-- of this template: docs/FORMATS.md.
use Rattle.std.specs.Prelude.{false, [], ◌∷◌, Some, codes, unwrap_or}
use Rattle.inv_any.specs.declared.any_inv.AnyInv.TheVariants as any
use Rattle.table_core.specs.Tables.{boolean_at, number_at}
use Rattle.tmpl_levels.specs.Blp.{blp}
use Rattle.tmpl_levels.specs.declared.blp.Clearance.{Clearance}
use Rattle.toml.specs.Data.{Members}
use Rattle.attr_core.specs.Alone.{alone}
use Rattle.attr_core.specs.Forms.{Form}
use Rattle.table_core.specs.Keys.{Boolean, Number, optional}

-- The clearance that a table specifies.
unfoldable pub blp_attribute : Members → Clearance
blp_attribute table = record {
  level = unwrap_or (number_at 65535 (codes "level") table) 0;
  trusted = unwrap_or (boolean_at (codes "trusted") table) false;
}

-- The attribute format of the template.
abbrev pub blp_form : Form
blp_form =
    alone blp (optional (codes "level") (Number 65535) ∷ optional (codes "trusted") Boolean ∷ [])
    (λ hosts host table. Some (blp_attribute table)) any.Blp
