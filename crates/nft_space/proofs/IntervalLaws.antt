-- The verdict of a map on the addresses of an interval.
use Rattle.std.proofs.Common.{◌≡◌, ℕ, zero, suc, ◌+◌, ◌<◌, ◌≤◌, List, [], ◌∷◌, Option, Some, None, refl, sym, ap, subst, inl, inr, length, arith}
use Rattle.std.specs.Prelude.{slice_get, slice_index_or, IfSome}
use Rattle.std.proofs.lemmas.Option.{same_Some}
use Rattle.std.specs.List.Sorted.{IsNonDecreasingBy}
use Rattle.header_space.specs.Owners.{LiesIn}
use Rattle.nft_rules.specs.declared.table.Element.{Element}
use Rattle.nft_rules.specs.Loadable.{AscendFrom}
use Rattle.nft_rules.specs.Maps.{LeadsTo, LeadsNowhere}

pub leads_there : (es : List Element) (i : ℕ) (e : Element) (a : ℕ) → slice_get es i ≡ Some e → LiesIn e.range a → LeadsTo es a e.verdict
leads_there [] i e a is lies = cc
leads_there (x ∷ xs) zero e a is lies =
    let same = sym (same_Some x e is) in
    inl (subst (λ (y : Element). LiesIn y.range a) same lies, ap (λ (y : Element). y.verdict) same)
leads_there (x ∷ xs) (suc i) e a is lies = inr (leads_there xs i e a is lies)

nowhere_before : (from : ℕ) (es : List Element) (a : ℕ) → AscendFrom from es → a < from → LeadsNowhere es a
nowhere_before from [] a ascend less = tt
nowhere_before from (e ∷ es) a ascend less =
    ((λ lies. omega (arith, ascend.0, lies.0, less)), nowhere_before (e.range.last + 1) es a ascend.2 (omega (arith, ascend.0, ascend.1, less)))

-- The address lies after the first i elements, and before the next one.
pub nowhere_between : (from : ℕ) (es : List Element) (i address a : ℕ) → AscendFrom from es
    → ((k : ℕ) (e : Element) → k < i → slice_get es k ≡ Some e → e.range.last < address) → address ≤ a
    → IfSome (slice_get es i) (λ e. a < e.range.first) → LeadsNowhere es a
nowhere_between from [] i address a ascend before here next = tt
nowhere_between from (e ∷ es) zero address a ascend before here next =
    ((λ lies. omega (arith, lies.0, next)), nowhere_before (e.range.last + 1) es a ascend.2 (omega (arith, ascend.1, next)))
nowhere_between from (e ∷ es) (suc i) address a ascend before here next =
    let ends : e.range.last < address = before 0 e (omega arith) refl in (
      (λ lies. omega (arith, lies.1, ends, here)),
      nowhere_between (e.range.last + 1) es i address a ascend.2 (λ k x less is. before (suc k) x (omega (arith, less)) is) here next,
    )

last_after : (from : ℕ) (es : List Element) (j : ℕ) (d : Element) → AscendFrom from es → j < length es → from ≤ (slice_index_or es j d).range.last
last_after from [] j d ascend within = absurd (omega arith)
last_after from (e ∷ es) zero d ascend within = omega (arith, ascend.0, ascend.1)
last_after from (e ∷ es) (suc j) d ascend within =
    let later = last_after (e.range.last + 1) es j d ascend.2 (omega (arith, within)) in
    omega (arith, ascend.0, ascend.1, later)

pub lasts_rise : (from : ℕ) (es : List Element) → AscendFrom from es → IsNonDecreasingBy (λ e. e.range.last) es
lasts_rise from [] ascend i j d le within = absurd (omega arith)
lasts_rise from (e ∷ es) ascend zero zero d le within = omega arith
lasts_rise from (e ∷ es) ascend zero (suc j) d le within =
    let later = last_after (e.range.last + 1) es j d ascend.2 (omega (arith, within)) in
    omega (arith, later)
lasts_rise from (e ∷ es) ascend (suc i) zero d le within = absurd (omega (arith, le))
lasts_rise from (e ∷ es) ascend (suc i) (suc j) d le within =
    lasts_rise (e.range.last + 1) es ascend.2 i j d (omega (arith, le)) (omega (arith, within))

-- ---- Options

pub for_some : {A : Type 0} (o : Option A) (Holds : A → Type 0) → ((x : A) → o ≡ Some x → Holds x) → IfSome o Holds
for_some None Holds each = tt
for_some (Some x) Holds each = each x refl
