-- Security gateways: `kind` is one of five words.
-- The keys of an assign of this template: docs/FORMATS.md.
use Rattle.std.specs.Prelude.{ℕ, List, [], ◌∷◌, codes}
use Rattle.inv_any.specs.declared.any_inv.AnyInv.TheVariants as any
use Rattle.tmpl_zones.specs.Gateway.{gateways}
use Rattle.tmpl_zones.specs.declared.gateway.GateKind.{GateKind}
use Rattle.tmpl_zones.specs.declared.gateway.GateKind.TheVariants.{Gateway, GatewayIn, Member, Accessible, Unassigned}
use Rattle.attr_core.specs.Forms.{Form}
use Rattle.attr_core.specs.Kinds.{by_kind}

-- The kinds, by their words.
abbrev pub gateway_kinds : List (List ℕ × GateKind)
gateway_kinds =
    (codes "gateway", Gateway)
    ∷ (codes "gateway-in", GatewayIn)
    ∷ (codes "member", Member)
    ∷ (codes "accessible", Accessible)
    ∷ (codes "unassigned", Unassigned)
    ∷ []

-- The attribute format of the template.
abbrev pub gateway_form : Form
gateway_form = by_kind gateways gateway_kinds any.Gateway
