-- The laws of an invariant of each template: it is lawful, since the template is; and the reasons for the default of each of the ten.
use Rattle.inv_any.specs.Templates.{meaning_of}
use Rattle.inv_any.specs.inner.Templates.{IfOneOfTheTen}
use Rattle.inv_any.specs.declared.any_inv.AnyInv.{AnyInv}
use Rattle.inv_any.specs.declared.any_inv.AnyInv.TheVariants as any
use Rattle.inv_law.specs.inner.Template.{MayHaveDefault, OnlyDefaultIsSecure}
use Rattle.inv_law.specs.laws.TemplateLaws.{IsLawful}
use Rattle.tmpl_domains.specs.laws.DomainsLaws.{domains_default, domains_lawful, domains_only}
use Rattle.tmpl_levels.specs.laws.BlpLaws.{blp_default, blp_lawful, blp_only}
use Rattle.tmpl_levels.specs.laws.TaintingLaws.{tainting_default, tainting_lawful, tainting_only}
use Rattle.tmpl_reach.specs.laws.DependabilityLaws.{dependability_default, dependability_lawful, dependability_only}
use Rattle.tmpl_reach.specs.laws.NoReachLaws.{no_reach_default, no_reach_lawful, no_reach_only}
use Rattle.tmpl_reach.specs.laws.NonInterferenceLaws.{non_interference_default, non_interference_lawful, non_interference_only}
use Rattle.tmpl_table.specs.laws.KindTableLaws.{declared_lawful}
use Rattle.tmpl_zones.specs.laws.GatewayLaws.{gateways_default, gateways_lawful, gateways_only}
use Rattle.tmpl_zones.specs.laws.PartnersLaws.{partners_default, partners_lawful, partners_only}
use Rattle.tmpl_zones.specs.laws.SinkLaws.{sinks_default, sinks_lawful, sinks_only}
use Rattle.tmpl_zones.specs.laws.SubnetsLaws.{subnets_default, subnets_lawful, subnets_only}

-- The invariant is lawful, its default is an attribute that each host may have, and no other attribute is a secure default.
laws : (any : AnyInv) → IsLawful (meaning_of any) × IfOneOfTheTen MayHaveDefault any × IfOneOfTheTen OnlyDefaultIsSecure any
laws (any.Blp hosts) = (blp_lawful hosts, blp_default, blp_only)
laws (any.Tainting hosts) = (tainting_lawful hosts, tainting_default, tainting_only)
laws (any.Sink hosts) = (sinks_lawful hosts, sinks_default, sinks_only)
laws (any.Gateway hosts) = (gateways_lawful hosts, gateways_default, gateways_only)
laws (any.Subnets hosts) = (subnets_lawful hosts, subnets_default, subnets_only)
laws (any.Partners hosts) = (partners_lawful hosts, partners_default, partners_only)
laws (any.Domains hosts) = (domains_lawful hosts, domains_default, domains_only)
laws (any.Dependability hosts) = (dependability_lawful hosts, dependability_default, dependability_only)
laws (any.NonInterference hosts) = (non_interference_lawful hosts, non_interference_default, non_interference_only)
laws (any.NoReach hosts) = (no_reach_lawful hosts, no_reach_default, no_reach_only)
laws (any.Table rule) = (declared_lawful rule.table rule.hosts, tt, tt)

pub lawful : (any : AnyInv) → IsLawful (meaning_of any)
lawful any = (laws any).0

pub may_have_default : (any : AnyInv) → IfOneOfTheTen MayHaveDefault any
may_have_default any = (laws any).1

pub only_default : (any : AnyInv) → IfOneOfTheTen OnlyDefaultIsSecure any
only_default any = (laws any).2
