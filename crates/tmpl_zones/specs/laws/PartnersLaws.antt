-- The default of the partners template is secure, and no other attribute is.
use Rattle.std.proofs.Common.{ℕ, List, length, refl}
use Rattle.std.proofs.lemmas.Bool.{false≢true}
use Rattle.inv_law.specs.laws.AttributeLaws.{ResetPassesNoMore-attributes}
use Rattle.inv_law.specs.inner.Resets.{IsSecureDefault, ResetPassesNoMore}
use Rattle.inv_law.specs.laws.RuleLaws.{AllFlowsPass-downward, AllFlowsPass-none, AllFlowsPass-edge_wise, AllFlowsPass-reset}
use Rattle.inv_law.specs.inner.Template.{MayHaveDefault, OnlyDefaultIsSecure}
use Rattle.inv_law.specs.laws.DefaultLaws.{sender_lets_off}
use Rattle.inv_law.specs.laws.TemplateLaws.{IsLawfulTemplate}
use Rattle.inv_law.specs.declared.strategy.Strategy.TheVariants.{Access}
use Rattle.tmpl_zones.specs.Kinds.{TablePasses}
use Rattle.tmpl_zones.specs.Partners.{Partner, DontCare, Care, Master, PartnersPass, partners, partners_passes}
use Rattle.tmpl_zones.specs.inner.Resets.{PartnersPassAfterReset}

-- A receiver that a sender with `DontCare` reaches is reached by every sender with its number.
pub partners_secure : (from : ℕ) → IsSecureDefault Access DontCare (TablePasses (partners_passes from))
partners_secure from sender DontCare passes = refl
partners_secure from sender Care passes = absurd (false≢true passes)
partners_secure from sender (Master takes_from) passes = passes

pub partners_reset : (n : ℕ) (partners : List Partner)
    → ResetPassesNoMore n Access (PartnersPass partners) (PartnersPassAfterReset partners)
partners_reset n partners f =
    ResetPassesNoMore-attributes Access DontCare (TablePasses (partners_passes f.from)) (partners_secure f.from) n partners f

pub partners_lawful : IsLawfulTemplate partners
partners_lawful hosts = record {
  downward = AllFlowsPass-downward (length hosts) (PartnersPass hosts);
  holds_on_none = AllFlowsPass-none (PartnersPass hosts);
  reset_preserves_violation = AllFlowsPass-reset (length hosts) Access (PartnersPass hosts) (PartnersPassAfterReset hosts) (partners_reset (length hosts) hosts);
  mark_is_right = λ marked. AllFlowsPass-edge_wise (length hosts) (PartnersPass hosts);
}

pub partners_default : MayHaveDefault partners
partners_default n host within = tt

-- All hosts except those with `DontCare` reach a host with `Care`.
pub partners_only : OnlyDefaultIsSecure partners
partners_only n host DontCare two is_host may other = absurd (other refl)
partners_only n host x two is_host may other =
    sender_lets_off partners.name partners.MayHave DontCare (λ i. TablePasses (partners_passes i)) x Care
    (λ n k. tt) (λ n k. tt) (λ i passes. false≢true passes) (λ i. refl) n host two is_host
