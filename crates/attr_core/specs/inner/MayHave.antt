-- Validity of attributes: an assign specifies the attribute that its table lists if and only if its host may have it.
use Rattle.std.specs.Prelude.{◌≡◌, ◌↔◌, ℕ, false, List, length, Option, Some, None, nat_lt, option_map, codes, replicate, unwrap_or, if◌then◌else◌}
use Rattle.std.specs.FinSet as set
use Rattle.std.specs.List.{fold}
use Rattle.std.specs.Str.{bytes_eq}
use Rattle.host_net.specs.Host.{Host, host_named}
use Rattle.flow_set.specs.HostSet.{HostNumbers}
use Rattle.table_core.specs.Listing.{each}
use Rattle.table_core.specs.Tables.{list_at, number_at, text_at}
use Rattle.text_core.specs.Steps.{◌>>=◌}
use Rattle.tmpl_domains.specs.Domains.{Place}
use Rattle.tmpl_domains.specs.Path.{segments}
use Rattle.tmpl_levels.specs.declared.tainting.Labels.{Labels}
use Rattle.tmpl_zones.specs.Partners.{Partner, Master, with_sender}
use Rattle.toml.specs.Data.{Data, Members, as_str}
use Rattle.attr_core.specs.Assigns.{Given}
use Rattle.attr_core.specs.Forms.{Form}
use Rattle.attr_core.specs.Kinds.{kind_named}
use Rattle.attr_core.specs.Partners.{listless_kinds}
use Rattle.attr_core.specs.Tainting.{bits_of, labels_in}

-- The assign specifies the listed attribute if and only if its host may have it.
abbrev pub SaysWhatHostsMayHave : (form : Form) → (List Host → List Given → Given → Option form.template.Attribute) → Type 0
SaysWhatHostsMayHave form lists =
    (hosts : List Host) (earlier : List Given) (a : Given) (x : form.template.Attribute)
    → (form.reads hosts earlier a ≡ Some x) ↔ ((lists hosts earlier a ≡ Some x) × form.template.MayHave (length hosts) a.host x)

-- The position, whether or not its path is valid.
abbrev pub domains_listed : Members → Option Place
domains_listed table =
    option_map (λ path. record { path = segments path; trust = unwrap_or (number_at 16 (codes "trust") table) 0 }) (text_at (codes "path") table)

-- The declared host that an element names, possibly the host itself.
abbrev pub known_host : List Host → Data → Option ℕ
known_host hosts d = as_str d >>= host_named hosts

abbrev pub noreach_listed : List Host → Members → Option HostNumbers
noreach_listed hosts table = list_at (codes "deny") table >>= λ ds. option_map set.from_list (each (known_host hosts) ds)

abbrev pub master_listed : List Host → List Data → Option Partner
master_listed hosts ds = option_map (fold with_sender (Master (replicate (length hosts) false))) (each (known_host hosts) ds)

abbrev pub partner_listed : List Host → Option (List Data) → List ℕ → Option Partner
partner_listed hosts None word = kind_named listless_kinds word
partner_listed hosts (Some ds) word = if bytes_eq word (codes "master") then master_listed hosts ds else None

abbrev pub partners_listed : List Host → Members → Option Partner
partners_listed hosts table = text_at (codes "kind") table >>= partner_listed hosts (list_at (codes "from") table)

-- The labels, without the check that the host has every label that it removes; there are at most 64 labels so far.
abbrev pub sets_listed : List (List ℕ) → Members → Option Labels
sets_listed labels table = do
  taints ← labels_in (codes "taints") table
  untaints ← labels_in (codes "untaints") table
  if nat_lt (length labels) 65 then Some (record { taints = bits_of labels taints; untaints = bits_of labels untaints }) else None
