-- Each address has a verdict of a verdict map, or none, and only one if the intervals ascend.
use Rattle.std.proofs.Common.{◌≡◌, ◌⊎◌, inl, inr, ℕ, ◌+◌, ◌≤◌, List, [], ◌∷◌, Option, Some, None, refl, sym, ap, ◌∙◌, arith}
use Rattle.std.proofs.lemmas.Bool.{cases_lt}
use Rattle.header_space.specs.declared.address_range.AddressRange.{AddressRange}
use Rattle.header_space.specs.Owners.{LiesIn}
use Rattle.nft_rules.specs.declared.table.Element.{Element}
use Rattle.nft_rules.specs.declared.table.Verdict.{Verdict}
use Rattle.nft_rules.specs.Loadable.{AscendFrom}
use Rattle.nft_rules.specs.Maps.{Leads, LeadsTo, LeadsNowhere}

lies_or_not : (range : AddressRange) (a : ℕ) → LiesIn range a ⊎ (LiesIn range a → ⊥)
lies_or_not range a = elim (cases_lt a range.first) [
  | inl before ↦ inr (λ lies. omega (arith, before, lies.0))
  | inr later ↦ elim (cases_lt range.last a) [
    | inl after ↦ inr (λ lies. omega (arith, after, lies.1))
    | inr within ↦ inl (later, within)
  ]
]

more_leads : (e : Element) (es : List Element) (a : ℕ) → LiesIn e.range a ⊎ (LiesIn e.range a → ⊥) → (v : Option Verdict) → Leads es a v
    → (u : Option Verdict) × Leads (e ∷ es) a u
more_leads e es a (inl lies) v leads = (Some e.verdict, inl (lies, refl))
more_leads e es a (inr not_here) None leads = (None, (not_here, leads))
more_leads e es a (inr not_here) (Some v) leads = (Some v, inr leads)

pub leads_some : (es : List Element) (a : ℕ) → (v : Option Verdict) × Leads es a v
leads_some [] a = (None, tt)
leads_some (e ∷ es) a = let later = leads_some es a in more_leads e es a (lies_or_not e.range a) later.0 later.1

leads_later : (from : ℕ) (es : List Element) (a : ℕ) (v : Verdict) → AscendFrom from es → LeadsTo es a v → from ≤ a
leads_later from [] a v ascend leads = absurd leads
leads_later from (e ∷ es) a v ascend (inl here) = omega (arith, ascend.0, here.0.0)
leads_later from (e ∷ es) a v ascend (inr later) =
    let after = leads_later (e.range.last + 1) es a v ascend.2 later in
    omega (arith, ascend.0, ascend.1, after)

leads_one : (from : ℕ) (es : List Element) (a : ℕ) (v u : Verdict) → AscendFrom from es → LeadsTo es a v → LeadsTo es a u → v ≡ u
leads_one from [] a v u ascend one two = absurd one
leads_one from (e ∷ es) a v u ascend (inl one) (inl two) = one.1 ∙ sym two.1
leads_one from (e ∷ es) a v u ascend (inl one) (inr two) =
    let after = leads_later (e.range.last + 1) es a u ascend.2 two in
    absurd (omega (arith, one.0.1, after))
leads_one from (e ∷ es) a v u ascend (inr one) (inl two) =
    let after = leads_later (e.range.last + 1) es a v ascend.2 one in
    absurd (omega (arith, two.0.1, after))
leads_one from (e ∷ es) a v u ascend (inr one) (inr two) = leads_one (e.range.last + 1) es a v u ascend.2 one two

nowhere_not : (es : List Element) (a : ℕ) (v : Verdict) → LeadsNowhere es a → LeadsTo es a v → ⊥
nowhere_not [] a v nowhere leads = leads
nowhere_not (e ∷ es) a v nowhere (inl here) = nowhere.0 here.0
nowhere_not (e ∷ es) a v nowhere (inr later) = nowhere_not es a v nowhere.1 later

pub leads_same : (es : List Element) (a : ℕ) (v u : Option Verdict) → AscendFrom 0 es → Leads es a v → Leads es a u → v ≡ u
leads_same es a None None ascend one two = refl
leads_same es a None (Some u) ascend one two = absurd (nowhere_not es a u one two)
leads_same es a (Some v) None ascend one two = absurd (nowhere_not es a v two one)
leads_same es a (Some v) (Some u) ascend one two = ap (λ (w : Verdict). Some w) (leads_one 0 es a v u ascend one two)
