-- A list file has either a parse result or a first error, if a line encodes at most one entry, and a line that encodes one has its shape.
use Rattle.std.proofs.Common.{◌≡◌, ℕ, List, [], ◌∷◌, ◌++◌, sym, ap, ◌∙◌, refl, arith}
use Rattle.text_core.specs.declared.faults.ListWhy.{ListWhy}
use Rattle.text_core.specs.ListFormat.{ListFormat, AddsEntry, IsBad, bad_line, bad_value, too_many, by_lines}
use Rattle.text_core.specs.inner.ListAnswers.{EncodesAtMostOne, EncodesOnlyWellFormed}
use Rattle.text_core.proofs.LineFormatLaws.{IsSettled}

one_next : {E : Type 0} (list : ListFormat E) → EncodesAtMostOne list → (n : ℕ) (before : List E) (line : List ℕ) (now other : List E)
    → AddsEntry list n before line now → AddsEntry list n before line other → now ≡ other
one_next list one n before line now other a b =
    a.added ∙ ap (λ e. before ++ e ∷ []) (one n line a.entry b.entry a.told b.told) ∙ sym b.added

one_reason : {E : Type 0} (list : ListFormat E) → EncodesOnlyWellFormed list → (n : ℕ) (before : List E) (line : List ℕ) (why other : ListWhy)
    → IsBad list n before line why → IsBad list n before line other → why ≡ other
one_reason list formed n before line _ _ (bad_line none) (bad_line again) = refl
one_reason list formed n before line _ _ (bad_line none) (bad_value form untold) = absurd (none form)
one_reason list formed n before line _ _ (bad_line none) (too_many e told full) = absurd (none (formed n line e told))
one_reason list formed n before line _ _ (bad_value form untold) (bad_line none) = absurd (none form)
one_reason list formed n before line _ _ (bad_value form untold) (bad_value again same) = refl
one_reason list formed n before line _ _ (bad_value form untold) (too_many e told full) = absurd (untold e told)
one_reason list formed n before line _ _ (too_many e told full) (bad_line none) = absurd (none (formed n line e told))
one_reason list formed n before line _ _ (too_many e told full) (bad_value form untold) = absurd (untold e told)
one_reason list formed n before line _ _ (too_many e told full) (too_many d again same) = refl

good_or_bad : {E : Type 0} (list : ListFormat E) → EncodesOnlyWellFormed list → (n : ℕ) (before : List E) (line : List ℕ) (now : List E) (why : ListWhy)
    → AddsEntry list n before line now → IsBad list n before line why → ⊥
good_or_bad list formed n before line now _ adds (bad_line none) = none (formed n line adds.entry adds.told)
good_or_bad list formed n before line now _ adds (bad_value form untold) = untold adds.entry adds.told
good_or_bad list formed n before line now _ adds (too_many e told full) = let few = adds.few in absurd (omega (arith, few, full))

-- A file has either a parse result or a first error.
pub list_settled : {E : Type 0} (list : ListFormat E) → EncodesAtMostOne list → EncodesOnlyWellFormed list → IsSettled (by_lines list)
list_settled list one formed = record {
  one_next = one_next list one;
  one_reason = one_reason list formed;
  good_or_bad = good_or_bad list formed;
  one_end = λ n s l m w v p q. absurd p;
  ends_or_not = λ n s l w p q. q;
}
