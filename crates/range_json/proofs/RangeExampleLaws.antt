-- Laws of ranges: the ranges of the services that pass are determined, but for their examples.
use Rattle.std.proofs.Common.{◌≡◌, ◌↔◌, ◌⊎◌, inl, inr, ℕ, ◌+◌, ◌<◌, ◌≤◌, suc, Bool, true, false, List, [], ◌∷◌, map, refl, sym, arith}
use Rattle.std.specs.List.{All}
use Rattle.std.proofs.lemmas.Bool.{cases_lt}
use Rattle.host_net.specs.declared.packet.Packet.{Packet}
use Rattle.pass_core.specs.Passing.{AreMaximal, ArePassing, IsBefore, IsShown, LiesInRange, is_wholly}
use Rattle.pass_core.specs.Services.{service_count}
use Rattle.pass_core.specs.declared.passing_range.PassingRange.{PassingRange}
use Rattle.range_json.specs.WithoutExamples.{range_without_examples}

-- Each range has a service.
abbrev AreSome : List PassingRange → Type 0
AreSome [] = Unit {0}
AreSome (r ∷ rs) = (r.low ≤ r.high) × AreSome rs

-- A service in a later range is after the range.
above : (r : PassingRange) (rs : List PassingRange) → IsBefore r rs → AreMaximal rs → AreSome rs → (kind : Bool) (n : ℕ) → LiesInRange rs kind n → r.high < n
above r [] before maximal some kind n lies = absurd lies
above r (s ∷ ss) before maximal some kind n (inl here) = let low = before.0 in let at = here.1 in omega (arith, low, at)
above r (s ∷ ss) before maximal some kind n (inr later) =
    let beyond = above s ss maximal.0 maximal.1 some.1 kind n later in
    let low = before.0 in
    let full = some.0 in
    omega (arith, beyond, low, full)

-- No service in the list is before its first range.
from_first : (r : PassingRange) (rs : List PassingRange) → AreMaximal (r ∷ rs) → AreSome (r ∷ rs) → (kind : Bool) (n : ℕ) → LiesInRange (r ∷ rs) kind n → r.low ≤ n
from_first r rs maximal some kind n (inl here) = here.1
from_first r rs maximal some kind n (inr later) =
    let beyond = above r rs maximal.0 maximal.1 some.1 kind n later in
    let full = some.0 in
    omega (arith, beyond, full)

-- The service after a range is in no range of the same kind.
none_after : (r : PassingRange) (rs : List PassingRange) → IsBefore r rs → AreMaximal rs → AreSome rs → LiesInRange rs (is_wholly r) (r.high + 1) → ⊥
none_after r [] before maximal some lies = absurd lies
none_after r (s ∷ ss) before maximal some (inl here) =
    let low = before.0 in
    let at = here.1 in
    let next : r.high + 1 ≡ s.low = omega (arith, low, at) in
    before.1 (next, sym here.0)
none_after r (s ∷ ss) before maximal some (inr later) =
    let beyond = above s ss maximal.0 maximal.1 some.1 (is_wholly r) (r.high + 1) later in
    let low = before.0 in
    let full = some.0 in
    omega (arith, beyond, low, full)

-- Both lists have the same services of each kind.
abbrev HaveSame : (rs ss : List PassingRange) → Type 0
HaveSame rs ss = (kind : Bool) (n : ℕ) → (LiesInRange rs kind n ↔ LiesInRange ss kind n)

turned : (rs ss : List PassingRange) → HaveSame rs ss → HaveSame ss rs
turned rs ss same kind n = ((same kind n).1, (same kind n).0)

-- A list of ranges, by its first range.
record IsList (r : PassingRange) (rs : List PassingRange) : Type 0 where
  maximal : AreMaximal (r ∷ rs)
  some : AreSome (r ∷ rs)

begins : (r : PassingRange) (rs : List PassingRange) → IsList r rs → LiesInRange (r ∷ rs) (is_wholly r) r.low
begins r rs is = let full = is.some.0 in inl (refl, omega arith, full)

low_before : (r s : PassingRange) (rs ss : List PassingRange) → IsList r rs → IsList s ss → HaveSame (r ∷ rs) (s ∷ ss) → s.low ≤ r.low
low_before r s rs ss one other same =
    from_first s ss other.maximal other.some (is_wholly r) r.low ((same (is_wholly r) r.low).0 (begins r rs one))

same_low : (r s : PassingRange) (rs ss : List PassingRange) → IsList r rs → IsList s ss → HaveSame (r ∷ rs) (s ∷ ss) → r.low ≡ s.low
same_low r s rs ss one other same =
    let left = low_before r s rs ss one other same in
    let right = low_before s r ss rs other one (turned (r ∷ rs) (s ∷ ss) same) in
    omega (arith, left, right)

same_kind : (r s : PassingRange) (rs ss : List PassingRange) → IsList r rs → IsList s ss → HaveSame (r ∷ rs) (s ∷ ss) → r.low ≡ s.low → is_wholly r ≡ is_wholly s
same_kind r s rs ss one other same low = by_place ((same (is_wholly r) r.low).0 (begins r rs one))
  where
    by_place : LiesInRange (s ∷ ss) (is_wholly r) r.low → is_wholly r ≡ is_wholly s
    by_place (inl here) = sym here.0
    by_place (inr later) =
        let beyond = above s ss other.maximal.0 other.maximal.1 other.some.1 (is_wholly r) r.low later in
        let full = other.some.0 in
        let never : ⊥ = omega (arith, beyond, full, low) in
        absurd never

ends_late : (r s : PassingRange) (rs ss : List PassingRange) → IsList r rs → IsList s ss → HaveSame (r ∷ rs) (s ∷ ss) → r.low ≡ s.low
    → is_wholly r ≡ is_wholly s → r.high < s.high → ⊥
ends_late r s rs ss one other same low kind less = by_place ((same (is_wholly r) (r.high + 1)).1 (inl (sym kind, at_low, at_high)))
  where
    at_low : s.low ≤ r.high + 1
    at_low = let full = one.some.0 in omega (arith, low, full)

    at_high : r.high + 1 ≤ s.high
    at_high = omega (arith, less)

    by_place : LiesInRange (r ∷ rs) (is_wholly r) (r.high + 1) → ⊥
    by_place (inl here) = let past = here.2 in omega (arith, past)
    by_place (inr later) = none_after r rs one.maximal.0 one.maximal.1 one.some.1 later

same_high : (r s : PassingRange) (rs ss : List PassingRange) → IsList r rs → IsList s ss → HaveSame (r ∷ rs) (s ∷ ss) → r.low ≡ s.low
    → is_wholly r ≡ is_wholly s → r.high ≡ s.high
same_high r s rs ss one other same low kind = by_order (cases_lt r.high s.high) (cases_lt s.high r.high)
  where
    by_order : (r.high < s.high) ⊎ (s.high ≤ r.high) → (s.high < r.high) ⊎ (r.high ≤ s.high) → r.high ≡ s.high
    by_order (inl less) any = absurd (ends_late r s rs ss one other same low kind less)
    by_order (inr most) (inl more) = absurd (ends_late s r ss rs other one (turned (r ∷ rs) (s ∷ ss) same) (sym low) (sym kind) more)
    by_order (inr most) (inr least) = omega (arith, most, least)

later_same : (r s : PassingRange) (rs ss : List PassingRange) → IsList r rs → HaveSame (r ∷ rs) (s ∷ ss) → r.high ≡ s.high → (kind : Bool) (n : ℕ)
    → LiesInRange rs kind n → LiesInRange ss kind n
later_same r s rs ss one same high kind n lies = by_place ((same kind n).0 (inr lies))
  where
    by_place : LiesInRange (s ∷ ss) kind n → LiesInRange ss kind n
    by_place (inl here) =
        let beyond = above r rs one.maximal.0 one.maximal.1 one.some.1 kind n lies in
        let within = here.2 in
        let never : ⊥ = omega (arith, beyond, within, high) in
        absurd never
    by_place (inr later) = later

none_lie : (s : PassingRange) (ss : List PassingRange) → IsList s ss → HaveSame [] (s ∷ ss) → ⊥
none_lie s ss is same = absurd ((same (is_wholly s) s.low).1 (begins s ss is))

lists_are_alike : (rs ss : List PassingRange) → AreMaximal rs → AreMaximal ss → AreSome rs → AreSome ss → HaveSame rs ss → map range_without_examples rs ≡ map range_without_examples ss
lists_are_alike [] [] a b c d same = refl
lists_are_alike [] (s ∷ ss) a b c d same = absurd (none_lie s ss (record { maximal = b; some = d }) same)
lists_are_alike (r ∷ rs) [] a b c d same = absurd (none_lie r rs (record { maximal = a; some = c }) (turned (r ∷ rs) [] same))
lists_are_alike (r ∷ rs) (s ∷ ss) a b c d same =
    let one : IsList r rs = record { maximal = a; some = c } in
    let other : IsList s ss = record { maximal = b; some = d } in
    let low = same_low r s rs ss one other same in
    let kind = same_kind r s rs ss one other same low in
    let high = same_high r s rs ss one other same low kind in
    let rest = lists_are_alike rs ss a.1 b.1 c.1 d.1 (λ k n. (
      later_same r s rs ss one same high k n,
      later_same s r ss rs other (turned (r ∷ rs) (s ∷ ss) same) (sym high) k n,
    )) in
    λ i. (low i, high i, kind i) ∷ rest i

-- The ranges of what passes.
module _ (Holds Between : Packet → Type 0) where
  some_of : (rs : List PassingRange) → All (λ r. IsShown Holds Between r) rs → AreSome rs
  some_of [] shown = tt
  some_of (r ∷ rs) shown = ((shown 0 r (omega arith)).some, some_of rs (λ k d low. shown (suc k) d (omega (arith, low))))

  counted : (rs : List PassingRange) → All (λ r. IsShown Holds Between r) rs → (kind : Bool) (n : ℕ) → LiesInRange rs kind n → n < service_count
  counted [] shown kind n lies = absurd lies
  counted (r ∷ rs) shown kind n (inl here) =
      let services = (shown 0 r (omega arith)).services in
      let within = here.2 in
      omega (arith, services, within)
  counted (r ∷ rs) shown kind n (inr later) = counted rs (λ k d low. shown (suc k) d (omega (arith, low))) kind n later

  also_in : (rs ss : List PassingRange) → ArePassing Holds Between rs → ArePassing Holds Between ss → (kind : Bool) (n : ℕ) → LiesInRange rs kind n → LiesInRange ss kind n
  also_in rs ss a b true n lies = let low = counted rs a.shown true n lies in (b.wholly n low).1 ((a.wholly n low).0 lies)
  also_in rs ss a b false n lies = let low = counted rs a.shown false n lies in (b.in_part n low).1 ((a.in_part n low).0 lies)

-- Two lists of the ranges that pass are alike.
pub ranges_are_alike : (Holds Between : Packet → Type 0) (rs ss : List PassingRange) → ArePassing Holds Between rs → ArePassing Holds Between ss
    → map range_without_examples rs ≡ map range_without_examples ss
ranges_are_alike Holds Between rs ss a b =
    lists_are_alike rs ss a.maximal b.maximal (some_of Holds Between rs a.shown) (some_of Holds Between ss b.shown)
    (λ kind n. (also_in Holds Between rs ss a b kind n, also_in Holds Between ss rs b a kind n))
