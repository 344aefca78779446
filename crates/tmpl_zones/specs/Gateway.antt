-- The security gateway template: four pairs of kinds fail, and all others pass. Based on the theory SINVAR_SecGwExt of
-- Network_Security_Policy_Verification in the Archive of Formal Proofs, with the table of docs/FORMATS.md.
use Rattle.std.specs.Prelude.{Bool, true, false, codes}
use Rattle.inv_law.specs.Template.{AnyAttribute, Template, edge_template}
use Rattle.inv_law.specs.declared.strategy.Strategy.TheVariants.{Access}
use Rattle.tmpl_zones.specs.Kinds.{TablePasses}
use Rattle.tmpl_zones.specs.declared.gateway.GateKind.{GateKind}
use Rattle.tmpl_zones.specs.declared.gateway.GateKind.TheVariants.{Gateway, Member, Accessible, Unassigned}

-- Whether a flow passes, by the kinds of its sender and its receiver.
abbrev pub gateway_passes : GateKind → GateKind → Bool
gateway_passes Member Member = false
gateway_passes Accessible Member = false
gateway_passes Unassigned Gateway = false
gateway_passes Unassigned Member = false
gateway_passes sender receiver = true

-- The template `gateway`.
abbrev pub gateways : Template
gateways = edge_template (codes "gateway") Access AnyAttribute Unassigned (TablePasses gateway_passes)
