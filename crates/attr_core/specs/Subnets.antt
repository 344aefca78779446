-- Subnets: `kind` is one of three words; only a subnet and a border also have a `number` up to 65,535. The keys of an
-- assign of this template: docs/FORMATS.md.
use Rattle.std.specs.Prelude.{ℕ, List, [], ◌∷◌, Option, Some, None, codes}
use Rattle.inv_any.specs.declared.any_inv.AnyInv.TheVariants as any
use Rattle.table_core.specs.Tables.{number_at}
use Rattle.tmpl_zones.specs.Subnets.{subnets}
use Rattle.tmpl_zones.specs.declared.subnets.NetKind.{NetKind}
use Rattle.tmpl_zones.specs.declared.subnets.NetKind.TheVariants.{Subnet, Border, Unassigned}
use Rattle.toml.specs.Data.{Members}
use Rattle.attr_core.specs.Alone.{alone}
use Rattle.attr_core.specs.Forms.{Form}
use Rattle.table_core.specs.Keys.{Number, optional}
use Rattle.attr_core.specs.Kinds.{kind_in, kind_key}

-- The kinds with a number, and without one.
abbrev pub net_kinds : Option ℕ → List (List ℕ × NetKind)
net_kinds (Some number) = (codes "subnet", Subnet number) ∷ (codes "border", Border number) ∷ []
net_kinds None = (codes "unassigned", Unassigned) ∷ []

-- The kind that a table specifies.
unfoldable pub subnets_attribute : Members → Option NetKind
subnets_attribute table = kind_in (net_kinds (number_at 65535 (codes "number") table)) table

-- The attribute format of the template.
abbrev pub subnets_form : Form
subnets_form =
    alone subnets (kind_key ∷ optional (codes "number") (Number 65535) ∷ []) (λ hosts host table. subnets_attribute table) any.Subnets
