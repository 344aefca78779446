-- An invariant of one of the ten templates, or of a template that is declared as a table: its meaning and its name, derived from the record
-- of its template.
use Rattle.std.specs.Prelude.{ℕ, List}
use Rattle.inv_any.specs.declared.any_inv.AnyInv.{AnyInv}
use Rattle.inv_any.specs.declared.any_inv.AnyInv.TheVariants as any
use Rattle.inv_law.specs.Template.{Template, Meaning, meaning}
use Rattle.tmpl_domains.specs.Domains.{domains}
use Rattle.tmpl_levels.specs.Blp.{blp}
use Rattle.tmpl_levels.specs.Tainting.{tainting}
use Rattle.tmpl_reach.specs.Dependability.{dependability}
use Rattle.tmpl_reach.specs.NonInterference.{non_interference}
use Rattle.tmpl_reach.specs.NoReach.{no_reach}
use Rattle.tmpl_table.specs.KindTable.{declared}
use Rattle.tmpl_zones.specs.Gateway.{gateways}
use Rattle.tmpl_zones.specs.Partners.{partners}
use Rattle.tmpl_zones.specs.Sink.{sinks}
use Rattle.tmpl_zones.specs.Subnets.{subnets}

-- A case analysis on an invariant: its template, the attributes of its hosts, and the constructor for other attributes. The meaning of an
-- invariant, its name and its reset are defined by this list of the templates; the attribute formats by a separate list.
abbrev pub by_template {ℓ} : {C : Type ℓ} → ((t : Template) → List t.Attribute → (List t.Attribute → AnyInv) → C) → AnyInv → C
by_template say (any.Blp hosts) = say blp hosts any.Blp
by_template say (any.Tainting hosts) = say tainting hosts any.Tainting
by_template say (any.Sink hosts) = say sinks hosts any.Sink
by_template say (any.Gateway hosts) = say gateways hosts any.Gateway
by_template say (any.Subnets hosts) = say subnets hosts any.Subnets
by_template say (any.Partners hosts) = say partners hosts any.Partners
by_template say (any.Domains hosts) = say domains hosts any.Domains
by_template say (any.Dependability hosts) = say dependability hosts any.Dependability
by_template say (any.NonInterference hosts) = say non_interference hosts any.NonInterference
by_template say (any.NoReach hosts) = say no_reach hosts any.NoReach
by_template say (any.Table rule) = say (declared rule.table) rule.hosts (λ hosts. any.Table (record { table = rule.table; hosts = hosts }))

-- The meaning of the invariant.
abbrev pub meaning_of : AnyInv → Meaning
meaning_of any = by_template (λ t hosts make. meaning t hosts) any

-- The name of the template in texts.
abbrev pub template_name : AnyInv → List ℕ
template_name any = by_template (λ t hosts make. t.name) any
