-- Dependability: `limit` is an integer up to 65,535. The keys of an assign of this template: docs/FORMATS.md.
use Rattle.std.specs.Prelude.{[], ◌∷◌, codes}
use Rattle.inv_any.specs.declared.any_inv.AnyInv.TheVariants as any
use Rattle.table_core.specs.Tables.{number_at}
use Rattle.tmpl_reach.specs.Dependability.{dependability}
use Rattle.attr_core.specs.Alone.{alone}
use Rattle.attr_core.specs.Forms.{Form}
use Rattle.table_core.specs.Keys.{Number, needed}

-- The attribute format of the template.
abbrev pub dependability_form : Form
dependability_form =
    alone dependability (needed (codes "limit") (Number 65535) ∷ []) (λ hosts host table. number_at 65535 (codes "limit") table)
    any.Dependability
