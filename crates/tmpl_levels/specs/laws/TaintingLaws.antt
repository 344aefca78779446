-- The default of the tainting template is secure, and no other attribute is.
use Rattle.std.proofs.Common.{◌≡◌, ℕ, suc, zero, ◌≤◌, ◌<◌, ◌/◌, ◌%◌, min, bit_and, inl, inr, sym, ap, subst, ◌∙◌, arith}
use Rattle.std.proofs.lemmas.Bool.{cases_eq}
use Rattle.std.proofs.lemmas.Nat.Bits.{bit_at-lt, bit_at-zero, bit_at-suc, bit_at_and, bit_at_lowest}
use Rattle.std.specs.Int.{bit_at}
use Rattle.inv_law.specs.inner.Resets.{IsSecureDefault}
use Rattle.inv_law.specs.inner.Template.{MayHaveDefault, OnlyDefaultIsSecure}
use Rattle.inv_law.specs.laws.DefaultLaws.{receiver_lets_off}
use Rattle.inv_law.specs.laws.TemplateLaws.{IsLawfulTemplate, lawful_edge}
use Rattle.inv_law.specs.declared.strategy.Strategy.TheVariants.{Information}
use Rattle.tmpl_levels.specs.Tainting.{HasLabel, TakesOffItsOwn, tainting, untainted, TaintsPass}

none_has : {C : Type 0} (label : ℕ) → HasLabel 0 label → C
none_has label has = let none = bit_at-zero label in absurd (omega (arith, none, has))

-- A sender that may send to an untainted receiver propagates no label, and may send to every receiver.
pub tainting_secure : IsSecureDefault Information untainted TaintsPass
tainting_secure sender receiver passes label has keeps =
    none_has label (passes label has keeps)

pub tainting_lawful : IsLawfulTemplate tainting
tainting_lawful = lawful_edge tainting.name tainting.strategy TakesOffItsOwn untainted TaintsPass tainting_secure

pub tainting_default : MayHaveDefault tainting
tainting_default n host within label off = off

-- If masking the removed labels by the labels of a host changes nothing, the host removes only labels that it has.
pub own_by_mask : (taints untaints : ℕ) → bit_and untaints taints ≡ untaints
    → TakesOffItsOwn (record { taints = taints; untaints = untaints })
own_by_mask taints untaints same label off =
    let masked : min (bit_at untaints label) (bit_at taints label) ≡ bit_at untaints label =
    sym (bit_at_and untaints taints label) ∙ ap (λ n. bit_at n label) same in
    omega (arith, off, masked, bit_at-lt taints label)

-- A number other than 0 has a bit.
lowest_or_higher : (k n : ℕ) → n ≤ k → 0 < n → (i : ℕ) × (bit_at n i ≡ 1)
lowest_or_higher zero n few some = absurd (omega arith)
lowest_or_higher (suc k) n few some =
    elim (cases_eq (n % 2) 1) [
      | inl odd ↦ (0, bit_at_lowest n ∙ odd)
      | inr even ↦
          let below : n / 2 ≤ k = omega arith in
          let rest : 0 < n / 2 = omega arith in
          let (i, is) = lowest_or_higher k (n / 2) below rest in
          (suc i, bit_at-suc n i ∙ is)
    ]

-- A host with labels accepts those labels.
pub tainting_only : OnlyDefaultIsSecure tainting
tainting_only n host x two is_host may other =
    let (label, has) = some_label in
    receiver_lets_off tainting.name tainting.MayHave untainted (λ i. TaintsPass) x (record { taints = x.taints; untaints = 0 })
    (λ n k l off. none_has l off) (λ n k l off. off) (λ i passes. none_has label (passes label has (none_has label)))
    (λ i l has keeps. has) n host two is_host
  where
    none_off : x.taints ≡ 0 → x.untaints ≡ 0
    none_off clean =
        elim (cases_eq x.untaints 0) [
          | inl none ↦ none
          | inr some ↦
              let (l, off) = lowest_or_higher x.untaints x.untaints (omega arith) (omega arith) in
              none_has l (subst (λ m. bit_at m l ≡ 1) clean (may l off))
        ]

    some_label : (l : ℕ) × HasLabel x.taints l
    some_label =
        elim (cases_eq x.taints 0) [
          | inl clean ↦ absurd (other (λ i. record { taints = clean i; untaints = none_off clean i }))
          | inr some ↦ lowest_or_higher x.taints x.taints (omega arith) (omega arith)
        ]
