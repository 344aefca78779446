-- No-reach: `deny` lists other hosts, by their names; the list may be empty.
-- The keys of an assign of this template: docs/FORMATS.md.
use Rattle.std.specs.Prelude.{ℕ, List, [], ◌∷◌, Option, option_map, codes}
use Rattle.std.specs.FinSet as set
use Rattle.host_net.specs.Host.{Host}
use Rattle.flow_set.specs.HostSet.{HostNumbers}
use Rattle.inv_any.specs.declared.any_inv.AnyInv.TheVariants as any
use Rattle.table_core.specs.Listing.{each}
use Rattle.table_core.specs.Tables.{list_at}
use Rattle.text_core.specs.Steps.{◌>>=◌}
use Rattle.tmpl_reach.specs.NoReach.{no_reach}
use Rattle.toml.specs.Data.{Data, Members}
use Rattle.attr_core.specs.Alone.{alone}
use Rattle.attr_core.specs.Forms.{Form}
use Rattle.table_core.specs.Keys.{Array, needed}
use Rattle.attr_core.specs.Peers.{peer}

-- The set of the listed hosts, each of them another declared host.
unfoldable pub all_denied : List Host → ℕ → List Data → Option HostNumbers
all_denied hosts host ds = option_map set.from_list (each (peer hosts host) ds)

-- The hosts that a table denies to its host.
unfoldable pub noreach_attribute : List Host → ℕ → Members → Option HostNumbers
noreach_attribute hosts host table = list_at (codes "deny") table >>= all_denied hosts host

-- The attribute format of the template.
abbrev pub noreach_form : Form
noreach_form = alone no_reach (needed (codes "deny") Array ∷ []) (λ hosts host table. noreach_attribute hosts host table) any.NoReach
