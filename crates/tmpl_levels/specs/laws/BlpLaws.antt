-- The default of the Bell-LaPadula template is secure, and no other attribute is.
use Rattle.std.proofs.Common.{◌≡◌, ℕ, zero, suc, Bool, true, false, inl, inr, refl, arith}
use Rattle.std.proofs.lemmas.Bool.{false≢true}
use Rattle.inv_law.specs.inner.Resets.{IsSecureDefault}
use Rattle.inv_law.specs.Template.{AnyAttribute}
use Rattle.inv_law.specs.inner.Template.{MayHaveDefault, OnlyDefaultIsSecure}
use Rattle.inv_law.specs.laws.DefaultLaws.{receiver_lets_off}
use Rattle.inv_law.specs.laws.TemplateLaws.{IsLawfulTemplate, lawful_edge}
use Rattle.inv_law.specs.declared.strategy.Strategy.TheVariants.{Information}
use Rattle.tmpl_levels.specs.Blp.{blp, unclassified, BlpPasses}

-- A sender that may send to an unclassified receiver has level 0, and may send to every receiver.
pub blp_secure : IsSecureDefault Information unclassified BlpPasses
blp_secure sender receiver (inl trusted) = absurd (false≢true trusted)
blp_secure sender receiver (inr low) = inr (omega arith)

pub blp_lawful : IsLawfulTemplate blp
blp_lawful = lawful_edge blp.name blp.strategy AnyAttribute unclassified BlpPasses blp_secure

pub blp_default : MayHaveDefault blp
blp_default n host within = tt

-- A sender of level 1 may not send to an unclassified host.
pub blp_only : OnlyDefaultIsSecure blp
blp_only n host x two is_host may other =
    receiver_lets_off blp.name blp.MayHave unclassified (λ i. BlpPasses) x (record { level = 1; trusted = false }) (λ n k. tt) (λ n k. tt)
    (λ i passes. elim passes [
      | inl trusts ↦ false≢true trusts
      | inr low ↦ omega arith
    ])
    (λ i. takes x.trusted x.level refl refl) n host two is_host
  where
    takes : (t : Bool) (l : ℕ) → x.trusted ≡ t → x.level ≡ l → BlpPasses (record { level = 1; trusted = false }) x
    takes true l is at = inl is
    takes false zero is at = absurd (other (λ i. record { level = at i; trusted = is i }))
    takes false (suc l) is at = inr (omega (arith, at))
