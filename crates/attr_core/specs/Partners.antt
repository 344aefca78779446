-- Partners: `kind` is one of three words; only a master has `from`, the list of the other hosts from which it receives packets. The keys of
-- an assign of this template: docs/FORMATS.md.
use Rattle.std.specs.Prelude.{ℕ, false, List, [], ◌∷◌, length, replicate, Option, Some, None, option_map, codes, if◌then◌else◌}
use Rattle.std.specs.List.{fold}
use Rattle.std.specs.Str.{bytes_eq}
use Rattle.host_net.specs.Host.{Host}
use Rattle.inv_any.specs.declared.any_inv.AnyInv.TheVariants as any
use Rattle.table_core.specs.Listing.{each}
use Rattle.table_core.specs.Tables.{list_at, text_at}
use Rattle.text_core.specs.Steps.{◌>>=◌}
use Rattle.tmpl_zones.specs.Partners.{Partner, DontCare, Care, Master, partners, with_sender}
use Rattle.toml.specs.Data.{Data, Members}
use Rattle.attr_core.specs.Alone.{alone}
use Rattle.attr_core.specs.Forms.{Form}
use Rattle.table_core.specs.Keys.{Array, optional}
use Rattle.attr_core.specs.Kinds.{kind_key, kind_named}
use Rattle.attr_core.specs.Peers.{peer}

-- A master that receives exactly from the listed hosts, each of them another declared host.
unfoldable pub master_of : List Host → ℕ → List Data → Option Partner
master_of hosts host ds = option_map (fold with_sender (Master (replicate (length hosts) false))) (each (peer hosts host) ds)

-- The kinds without a list of senders.
abbrev pub listless_kinds : List (List ℕ × Partner)
listless_kinds = (codes "dontcare", DontCare) ∷ (codes "care", Care) ∷ []

-- The kind of a word without a list, and with a list.
abbrev pub partner_of : List Host → ℕ → Option (List Data) → List ℕ → Option Partner
partner_of hosts host None word = kind_named listless_kinds word
partner_of hosts host (Some ds) word = if bytes_eq word (codes "master") then master_of hosts host ds else None

-- The kind that a table specifies.
unfoldable pub partners_attribute : List Host → ℕ → Members → Option Partner
partners_attribute hosts host table = text_at (codes "kind") table >>= partner_of hosts host (list_at (codes "from") table)

-- The attribute format of the template.
abbrev pub partners_form : Form
partners_form = alone partners (kind_key ∷ optional (codes "from") Array ∷ []) (λ hosts host table. partners_attribute hosts host table) any.Partners
