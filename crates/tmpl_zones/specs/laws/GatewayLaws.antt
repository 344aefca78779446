-- The default of the security gateway template is secure, and no other attribute is.
use Rattle.std.specs.Prelude.{refl}
use Rattle.std.proofs.lemmas.Bool.{false≢true}
use Rattle.inv_law.specs.inner.Resets.{IsSecureDefault}
use Rattle.inv_law.specs.Template.{AnyAttribute}
use Rattle.inv_law.specs.inner.Template.{MayHaveDefault, OnlyDefaultIsSecure}
use Rattle.inv_law.specs.laws.DefaultLaws.{sender_lets_off}
use Rattle.inv_law.specs.laws.TemplateLaws.{IsLawfulTemplate, lawful_edge}
use Rattle.inv_law.specs.declared.strategy.Strategy.TheVariants.{Access}
use Rattle.tmpl_zones.specs.Kinds.{TablePasses}
use Rattle.tmpl_zones.specs.Gateway.{gateways, gateway_passes}
use Rattle.tmpl_zones.specs.declared.gateway.GateKind.TheVariants.{Gateway, Member, Accessible, Unassigned}

-- A receiver that an unassigned sender reaches is reached by every sender.
pub gateway_secure : IsSecureDefault Access Unassigned (TablePasses gateway_passes)
gateway_secure Member Member passes = passes
gateway_secure Accessible Member passes = passes
gateway_secure Unassigned receiver passes = passes
gateway_secure sender receiver passes = refl

pub gateways_lawful : IsLawfulTemplate gateways
gateways_lawful = lawful_edge gateways.name gateways.strategy AnyAttribute Unassigned (TablePasses gateway_passes) gateway_secure

pub gateways_default : MayHaveDefault gateways
gateways_default n host within = tt

-- All hosts except unassigned ones reach a gateway.
pub gateways_only : OnlyDefaultIsSecure gateways
gateways_only n host Unassigned two is_host may other = absurd (other refl)
gateways_only n host x two is_host may other =
    sender_lets_off gateways.name gateways.MayHave Unassigned (λ i. TablePasses gateway_passes) x Gateway
    (λ n k. tt) (λ n k. tt) (λ i passes. false≢true passes) (λ i. refl) n host two is_host
