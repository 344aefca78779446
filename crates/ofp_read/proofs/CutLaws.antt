-- A text is cut at its first separator.
use Rattle.std.proofs.Common.{◌≡◌, inl, inr, ℕ, ◌+◌, ◌<◌, ◌≤◌, ◌-◌, false, List, [], ◌∷◌, ◌++◌, Some, None, length, take, drop, get_or, position, length-drop, refl, sym, ap, ◌∙◌, arith}
use Rattle.std.specs.List.{position_or_len}
use Rattle.std.proofs.lemmas.Bool.Decides.{nat_tests}
use Rattle.std.proofs.lemmas.List.{drop_more, get_or-take, length-take-le, take_all, take-append-drop}
use Rattle.std.proofs.lemmas.List.Elements.{All-from_get_or}
use Rattle.std.proofs.lemmas.List.Quantifiers.{position-Some}
use Rattle.std.proofs.lemmas.List.Sums.{fails_before_first}
use Rattle.ofp_read.specs.Grammar.{is_separator}
use Rattle.ofp_read.specs.inner.Cut.{IsCut}

-- In terms of the code.
pub cut_found : (text : List ℕ) (at : ℕ) → position is_separator text ≡ Some at
    → IsCut text (take at text) (take (length text - (at + 1)) (drop (at + 1) text))
cut_found text at is =
    let found = position-Some is_separator text at 0 is in
    let rest : take (length text - (at + 1)) (drop (at + 1) text) ≡ drop (at + 1) text = take_all (length text - (at + 1)) (drop (at + 1) text)
    (omega (arith, length-drop (at + 1) text)) in
    record {
      whole = All-from_get_or (λ b. is_separator b ≡ false) (take at text) 0
          (λ k within. let below : k < at = omega (arith, within, length-take-le at text (omega (arith, found.0))) in ap is_separator (get_or-take at text k 0 below) ∙ found.2 k below);
      cut = inr (
        get_or text at 0,
        found.1,
        sym (take-append-drop at text) ∙ ap (λ bs. take at text ++ bs) (drop_more text at 0 found.0 ∙ ap (λ bs. get_or text at 0 ∷ bs) (sym rest)),
      );
    }

pub cut_nowhere : (text : List ℕ) → position is_separator text ≡ None → IsCut text text []
cut_nowhere text is =
    let past : length text ≤ position_or_len is_separator text = grind (arith, nat_tests) in
    record {
      whole = All-from_get_or (λ b. is_separator b ≡ false) text 0 (λ k within. fails_before_first is_separator text k 0 (omega (arith, within, past)));
      cut = inl (refl, refl);
    }
