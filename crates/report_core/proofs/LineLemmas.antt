-- The length of the parts of a refusal's line.
use Rattle.std.proofs.Common.{◌≡◌, ◌≢◌, ℕ, true, false, ◌==◌, zero, suc, ◌+◌, ◌<◌, ◌≤◌, ◌^◌, refl, List, [], ◌∷◌, ◌++◌, length, arith, length-append}
use Rattle.std.specs.Prelude.{codes, decimal}
use Rattle.std.proofs.lemmas.Bool.{eqb-true}
use Rattle.std.proofs.lemmas.Fmt.{length-decimal-le}
use Rattle.desc_form.specs.Refusals.{name, number}
use Rattle.desc_form.specs.declared.refusal.Refusal.{Refusal}
use Rattle.desc_form.specs.declared.refusal.Why.{Why}
use Rattle.report_core.specs.RefusalLine.{cause_text, if_nonempty, if_nonzero, place_text, refusal_text}

pub decimal_short : (n : ℕ) → n < 2 ^ 64 → length (decimal n) ≤ 20
decimal_short n fits = length-decimal-le 20 n (omega arith) (omega (arith, fits)) fits

-- A number that is printed, and a name.
pub told : (word : List ℕ) (n : ℕ) → n ≢ 0 → if_nonzero word n ≡ word ++ decimal n
told word zero some = absurd (some refl)
told word (suc k) some = refl

pub told_short : (word : List ℕ) (n : ℕ) → n < 2 ^ 64 → length (if_nonzero word n) ≤ length word + 20
told_short word zero fits = omega arith
told_short word (suc k) fits = simp length-append (omega (arith, decimal_short (suc k) fits))

pub named : (name : List ℕ) → (length name == 0) ≡ false → if_nonempty name ≡ codes ": " ++ name
named [] some = cc
named (b ∷ bs) some = refl

pub unnamed : (name : List ℕ) → (length name == 0) ≡ true → if_nonempty name ≡ []
unnamed [] nothing = refl
unnamed (b ∷ bs) some = absurd (omega (arith, eqb-true _ _ some))

pub named_short : (name : List ℕ) → length name ≤ 32 → length (if_nonempty name) ≤ 34
named_short [] short = omega arith
named_short (b ∷ bs) short = omega (arith, short)

pub cause_short : (why : Why) → number why < 2 ^ 64 → length (name why) ≤ 15 → length (cause_text why) ≤ 36
unfolding cause_text
cause_short why fits short = simp length-append (omega (arith, decimal_short (number why) fits, short))

pub numbered_short : (word : List ℕ) (n : ℕ) → n < 2 ^ 64 → length (word ++ decimal n) ≤ length word + 20
numbered_short word n fits = simp length-append (omega (arith, decimal_short n fits))

-- The parts of a refusal's line are short, so the line is.
pub record IsShort (r : Refusal) : Type 0 where
  pub cause : length (cause_text r.why) ≤ 36
  pub place : length (place_text r.place) ≤ 58
  pub item : length (if_nonzero (codes " item ") r.item) ≤ 26
  pub other : length (if_nonzero (codes ", other ") r.other) ≤ 28
  pub name : length (if_nonempty r.name) ≤ 34

pub refusal_short : (r : Refusal) → IsShort r → length (refusal_text r) ≤ 256
unfolding refusal_text
refusal_short r short = simp length-append (omega (arith, short.cause, short.place, short.item, short.other, short.name))
