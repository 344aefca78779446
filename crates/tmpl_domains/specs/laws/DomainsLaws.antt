-- The default of the domain hierarchy template is secure, and no other attribute is.
use Rattle.std.proofs.Common.{ℕ, ◌-◌, length, drop, Some, None, refl, sym}
use Rattle.std.proofs.lemmas.List.{take-append-drop}
use Rattle.std.specs.Prelude.{IfSome}
use Rattle.inv_law.specs.inner.Resets.{IsSecureDefault}
use Rattle.inv_law.specs.inner.Template.{MayHaveDefault, OnlyDefaultIsSecure}
use Rattle.inv_law.specs.laws.DefaultLaws.{sender_lets_off}
use Rattle.inv_law.specs.laws.TemplateLaws.{IsLawfulTemplate, lawful_edge}
use Rattle.inv_law.specs.declared.strategy.Strategy.TheVariants.{Access}
use Rattle.tmpl_domains.specs.Domains.{DomainsPass, IsPlace, domains}

-- A sender without a position reaches only receivers without one, which all senders reach.
pub domains_secure : IsSecureDefault Access None DomainsPass
domains_secure sender None passes = tt
domains_secure sender (Some receiver) passes = absurd passes

pub domains_lawful : IsLawfulTemplate domains
domains_lawful = lawful_edge domains.name domains.strategy (λ place. IfSome place IsPlace) None DomainsPass domains_secure

pub domains_default : MayHaveDefault domains
domains_default n host within = tt

-- A host with a place reaches that place.
pub domains_only : OnlyDefaultIsSecure domains
domains_only n host None two is_host may other = absurd (other refl)
domains_only n host (Some place) two is_host may other =
    let kept : ℕ = length place.path - place.trust in
    sender_lets_off domains.name domains.MayHave None (λ i. DomainsPass) (Some place) (Some place)
    (λ n k. may) (λ n k. tt) (λ i passes. passes) (λ i. (drop kept place.path, sym (take-append-drop kept place.path))) n host two is_host
