-- The subnets template: a subnet sends within its number, borders send to each other, and all send to unassigned hosts.
-- Based on the template of this name of Network_Security_Policy_Verification in the Archive of Formal Proofs, with the
-- table of docs/FORMATS.md.
use Rattle.std.specs.Prelude.{Bool, true, false, ◌==◌, codes}
use Rattle.inv_law.specs.Template.{AnyAttribute, Template, edge_template}
use Rattle.inv_law.specs.declared.strategy.Strategy.TheVariants.{Access}
use Rattle.tmpl_zones.specs.Kinds.{TablePasses}
use Rattle.tmpl_zones.specs.declared.subnets.NetKind.{NetKind}
use Rattle.tmpl_zones.specs.declared.subnets.NetKind.TheVariants.{Subnet, Border, Unassigned}

-- Whether a flow passes, by the kinds of its sender and its receiver.
abbrev pub subnets_passes : NetKind → NetKind → Bool
subnets_passes (Subnet a) (Subnet b) = a == b
subnets_passes (Subnet a) (Border b) = a == b
subnets_passes (Border a) (Border b) = true
subnets_passes sender Unassigned = true
subnets_passes sender receiver = false

-- The template `subnets`.
abbrev pub subnets : Template
subnets = edge_template (codes "subnets") Access AnyAttribute Unassigned (TablePasses subnets_passes)
