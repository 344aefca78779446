-- The default of the subnets template is secure, and no other attribute is.
use Rattle.std.specs.Prelude.{◌≢◌, refl}
use Rattle.std.proofs.lemmas.Bool.{eq-eqb, false≢true}
use Rattle.inv_law.specs.inner.Resets.{IsSecureDefault}
use Rattle.inv_law.specs.Template.{AnyAttribute}
use Rattle.inv_law.specs.inner.Template.{MayHaveDefault, OnlyDefaultIsSecure}
use Rattle.inv_law.specs.laws.DefaultLaws.{sender_lets_off}
use Rattle.inv_law.specs.laws.TemplateLaws.{IsLawfulTemplate, lawful_edge}
use Rattle.inv_law.specs.declared.strategy.Strategy.TheVariants.{Access}
use Rattle.tmpl_zones.specs.Kinds.{TablePasses}
use Rattle.tmpl_zones.specs.Subnets.{subnets, subnets_passes}
use Rattle.tmpl_zones.specs.declared.subnets.NetKind.{NetKind}
use Rattle.tmpl_zones.specs.declared.subnets.NetKind.TheVariants.{Subnet, Border, Unassigned}

-- An unassigned sender reaches only unassigned receivers, which all senders reach.
pub subnets_secure : IsSecureDefault Access Unassigned (TablePasses subnets_passes)
subnets_secure sender (Subnet b) passes = absurd (false≢true passes)
subnets_secure sender (Border b) passes = absurd (false≢true passes)
subnets_secure (Subnet a) Unassigned passes = refl
subnets_secure (Border a) Unassigned passes = refl
subnets_secure Unassigned Unassigned passes = refl

pub subnets_lawful : IsLawfulTemplate subnets
subnets_lawful = lawful_edge subnets.name subnets.strategy AnyAttribute Unassigned (TablePasses subnets_passes) subnets_secure

pub subnets_default : MayHaveDefault subnets
subnets_default n host within = tt

-- Subnets reach their own hosts, and borders reach borders.
pub subnets_only : OnlyDefaultIsSecure subnets
subnets_only n host x two is_host may other =
    sender_lets_off subnets.name subnets.MayHave Unassigned (λ i. TablePasses subnets_passes) x x
    (λ n k. tt) (λ n k. tt) (λ i. denies x other) (λ i. takes x) n host two is_host
  where
    denies : (kind : NetKind) → kind ≢ Unassigned → TablePasses subnets_passes Unassigned kind → ⊥
    denies Unassigned other passes = other refl
    denies kind other passes = false≢true passes

    takes : (kind : NetKind) → TablePasses subnets_passes kind kind
    takes (Subnet a) = eq-eqb a a refl
    takes kind = refl
