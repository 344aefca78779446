-- Appending a range to a list of ranges.
use Rattle.std.proofs.Common.{◌≡◌, ◌⊎◌, inl, inr, ℕ, ◌+◌, ◌<◌, ◌≤◌, Bool, true, false, List, [], ◌∷◌, ◌++◌, Some, refl, sym, ◌∙◌, arith}
use Rattle.std.specs.List.{All}
use Rattle.std.proofs.lemmas.List.Elements.{All-head, All-nil, All-pop, All-push, All-tail, All-weaker}
use Rattle.std.proofs.lemmas.Option.{IfSome_then}
use Rattle.header_space.proofs.SplitLaws.{le_or_lt}
use Rattle.host_net.specs.declared.packet.Packet.{Packet}
use Rattle.pass_core.specs.declared.passing_range.PassingRange.{PassingRange}
use Rattle.pass_core.specs.Passing.{AreMaximal, GoesOn, IsExampleOf, IsShown, LiesInRange, is_wholly}
use Rattle.pass_core.specs.inner.Joining.{Joins, begins, extends, extended, follows}

-- ---- the range of a service

lies_first : (xs ys : List PassingRange) (b : Bool) (n : ℕ) → LiesInRange xs b n → LiesInRange (xs ++ ys) b n
lies_first [] ys b n lies = absurd lies
lies_first (x ∷ xs) ys b n lies = elim lies [ inl here ↦ inl here | inr later ↦ inr (lies_first xs ys b n later) ]

lies_second : (xs ys : List PassingRange) (b : Bool) (n : ℕ) → LiesInRange ys b n → LiesInRange (xs ++ ys) b n
lies_second [] ys b n lies = lies
lies_second (x ∷ xs) ys b n lies = inr (lies_second xs ys b n lies)

lies_either : (xs ys : List PassingRange) (b : Bool) (n : ℕ) → LiesInRange (xs ++ ys) b n → LiesInRange xs b n ⊎ LiesInRange ys b n
lies_either [] ys b n lies = inr lies
lies_either (x ∷ xs) ys b n lies = elim lies [
  | inl here ↦ inl (inl here)
  | inr later ↦ elim (lies_either xs ys b n later) [ inl first ↦ inl (inr first) | inr second ↦ inr second ]
]

-- If all ranges end before `next`, they contain no service from `next` on.
pub lies_below : (rs : List PassingRange) (b : Bool) (next n : ℕ) → All (λ (r : PassingRange). r.high < next) rs → next ≤ n → LiesInRange rs b n → ⊥
lies_below [] b next n below from lies = lies
lies_below (r ∷ rs) b next n below from lies = elim lies [
  | inl here ↦ let low = All-head (λ (r : PassingRange). r.high < next) r rs below in let high = here.2 in omega (arith, low, high, from)
  | inr later ↦ lies_below rs b next n (All-tail (λ (r : PassingRange). r.high < next) r rs below) from later
]

-- The service is in this range, which is of this kind.
abbrev pub LiesHere : PassingRange → Bool → ℕ → Type 0
LiesHere r b n = (is_wholly r ≡ b) × (r.low ≤ n) × (n ≤ r.high)

lies_only : (r : PassingRange) (b : Bool) (n : ℕ) → LiesInRange (r ∷ []) b n → LiesHere r b n
lies_only r b n lies = elim lies [ inl here ↦ here | inr none ↦ absurd none ]

-- ---- maximal ranges

max_one : (r : PassingRange) → AreMaximal (r ∷ [])
max_one r = (tt, tt)

max_extended : (rest : List PassingRange) (last r : PassingRange) → AreMaximal (rest ++ last ∷ []) → AreMaximal (rest ++ extended last r ∷ [])
max_extended [] last r are = max_one (extended last r)
max_extended (x ∷ []) last r are = (are.0, (tt, tt))
max_extended (x ∷ y ∷ rest) last r are = (are.0, max_extended (y ∷ rest) last r are.1)

max_follows : (rest : List PassingRange) (last r : PassingRange) → last.high < r.low → (GoesOn last r → ⊥) → AreMaximal (rest ++ last ∷ [])
    → AreMaximal ((rest ++ last ∷ []) ++ r ∷ [])
max_follows [] last r low apart are = ((low, apart), (tt, tt))
max_follows (x ∷ []) last r low apart are = (are.0, ((low, apart), (tt, tt)))
max_follows (x ∷ y ∷ rest) last r low apart are = (are.0, max_follows (y ∷ rest) last r low apart are.1)

-- ---- a range is appended

pub record IsAppended (Holds : Packet → Type 0) (Between : Packet → Type 0) (old : List PassingRange) (r : PassingRange) (new : List PassingRange) : Type 0 where
  pub maximal : AreMaximal new
  pub shown : All (λ x. IsShown Holds Between x) new
  pub below : All (λ x. x.high < r.high + 1) new
  pub lies : (b : Bool) (n : ℕ) → LiesInRange new b n → LiesInRange old b n ⊎ LiesHere r b n
  pub old_lies : (b : Bool) (n : ℕ) → LiesInRange old b n → LiesInRange new b n
  pub new_lies : (b : Bool) (n : ℕ) → LiesHere r b n → LiesInRange new b n

module _ (Holds : Packet → Type 0) (Between : Packet → Type 0) (r : PassingRange) (is : IsShown Holds Between r) where
  begun : IsAppended Holds Between [] r (r ∷ [])
  begun = record {
    maximal = max_one r;
    shown = All-push (λ (x : PassingRange). IsShown Holds Between x) [] r (All-nil (λ (x : PassingRange). IsShown Holds Between x)) is;
    below = All-push (λ (x : PassingRange). x.high < r.high + 1) [] r (All-nil (λ (x : PassingRange). x.high < r.high + 1)) (omega arith);
    lies = λ b n lies. inr (lies_only r b n lies);
    old_lies = λ b n lies. absurd lies;
    new_lies = λ b n here. inl here;
  }

  module _ (rest : List PassingRange) (last : PassingRange) (are : AreMaximal (rest ++ last ∷ []))
      (shown : All (λ x. IsShown Holds Between x) (rest ++ last ∷ [])) (below : All (λ x. x.high < r.low) (rest ++ last ∷ [])) where
    shown_parts : All (λ x. IsShown Holds Between x) rest × IsShown Holds Between last
    shown_parts = All-pop (λ (x : PassingRange). IsShown Holds Between x) (rest ++ last ∷ []) rest (Some last) refl shown

    below_parts : All (λ x. x.high < r.low) rest × (last.high < r.low)
    below_parts = All-pop (λ (x : PassingRange). x.high < r.low) (rest ++ last ∷ []) rest (Some last) refl below

    lower : (x : PassingRange) → x.high < r.low → x.high < r.high + 1
    lower x low = let some = is.some in omega (arith, low, some)

    longer : (passes : Bool) (p : Packet) → IsExampleOf Holds Between last passes p → IsExampleOf Holds Between (extended last r) passes p
    longer passes p example = record {
      between = example.between;
      low = example.low;
      high = let high = example.high in let low = below_parts.1 in let some = is.some in omega (arith, high, low, some);
      decided = example.decided;
    }

    shown_extended : IsShown Holds Between (extended last r)
    shown_extended = record {
      some = let first = shown_parts.1.some in let low = below_parts.1 in let some = is.some in omega (arith, first, low, some);
      services = is.services;
      passes = longer true last.passes shown_parts.1.passes;
      stays = IfSome_then last.stays shown_parts.1.stays (λ p example. longer false p example);
    }

    went_on : GoesOn last r → IsAppended Holds Between (rest ++ last ∷ []) r (rest ++ extended last r ∷ [])
    went_on goes = record {
      maximal = max_extended rest last r are;
      shown = All-push (λ (x : PassingRange). IsShown Holds Between x) rest (extended last r) shown_parts.0 shown_extended;
      below =
          All-push (λ (x : PassingRange). x.high < r.high + 1) rest (extended last r)
          (All-weaker (λ (x : PassingRange). x.high < r.low) (λ (x : PassingRange). x.high < r.high + 1) lower rest below_parts.0) (omega arith);
      lies = λ b n lies. elim (lies_either rest (extended last r ∷ []) b n lies) [
        | inl first ↦ inl (lies_first rest (last ∷ []) b n first)
        | inr second ↦ let here = lies_only (extended last r) b n second in elim (le_or_lt n last.high) [
          | inl low ↦ inl (lies_second rest (last ∷ []) b n (inl (here.0, here.1, low)))
          | inr high ↦ inr (sym goes.1 ∙ here.0, (let next = goes.0 in omega (arith, next, high)), here.2)
        ]
      ];
      old_lies = λ b n lies. elim (lies_either rest (last ∷ []) b n lies) [
        | inl first ↦ lies_first rest (extended last r ∷ []) b n first
        | inr second ↦
            let here = lies_only last b n second in
            let low = below_parts.1 in
            lies_second rest (extended last r ∷ []) b n (inl (here.0, here.1, omega (arith, here.2, is.some)))
      ];
      new_lies = λ b n here.
          lies_second rest (extended last r ∷ []) b n
          (inl (goes.1 ∙ here.0, (let first = shown_parts.1.some in let low = below_parts.1 in let from = here.1 in omega (arith, first, low, from)), here.2));
    }

    followed : (GoesOn last r → ⊥) → IsAppended Holds Between (rest ++ last ∷ []) r ((rest ++ last ∷ []) ++ r ∷ [])
    followed apart = record {
      maximal = max_follows rest last r below_parts.1 apart are;
      shown = All-push (λ (x : PassingRange). IsShown Holds Between x) (rest ++ last ∷ []) r shown is;
      below =
          All-push (λ (x : PassingRange). x.high < r.high + 1) (rest ++ last ∷ []) r
          (All-weaker (λ (x : PassingRange). x.high < r.low) (λ (x : PassingRange). x.high < r.high + 1) lower (rest ++ last ∷ []) below) (omega arith);
      lies = λ b n lies. elim (lies_either (rest ++ last ∷ []) (r ∷ []) b n lies) [
        | inl first ↦ inl first
        | inr second ↦ inr (lies_only r b n second)
      ];
      old_lies = λ b n lies. lies_first (rest ++ last ∷ []) (r ∷ []) b n lies;
      new_lies = λ b n here. lies_second (rest ++ last ∷ []) (r ∷ []) b n (inl here);
    }

  pub joined : (old new : List PassingRange) → AreMaximal old → All (λ x. IsShown Holds Between x) old → All (λ x. x.high < r.low) old → Joins old r new
      → IsAppended Holds Between old r new
  joined old new are shown below (begins none one) = rw (none, one) begun
  joined old new are shown below (extends rest last was goes now) =
      rw (was, now) (went_on rest last (rw was at are) (rw was at shown) (rw was at below) goes)
  joined old new are shown below (follows rest last was apart now) =
      rw (was, now) (followed rest last (rw was at are) (rw was at shown) (rw was at below) apart)
