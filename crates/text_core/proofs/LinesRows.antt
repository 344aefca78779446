-- Test vectors: lines, tokens and comments of small texts.
use Rattle.std.proofs.Common.{◌≡◌, true, false, [], ◌∷◌, ◌++◌, refl}
use Rattle.std.specs.Prelude.{codes}
use Rattle.text_core.specs.Lines.{lines, words, is_comment}

-- A last line may lack its end.
row_last : lines (codes "a" ++ (10 ∷ (10 ∷ codes "b"))) ≡ codes "a" ∷ [] ∷ codes "b" ∷ []
row_last = refl

row_ended : lines (codes "a" ++ (10 ∷ [])) ≡ codes "a" ∷ []
row_ended = refl

-- Runs of blanks separate tokens; byte 13 is no blank.
row_words : words (codes " a  b" ++ (9 ∷ (codes "c" ++ (13 ∷ [])))) ≡ codes "a" ∷ codes "b" ∷ (codes "c" ++ (13 ∷ [])) ∷ []
row_words = refl

row_comment : is_comment (codes " # a") ≡ true
unfolding is_comment
row_comment = refl

row_blank : is_comment (32 ∷ 9 ∷ []) ≡ true
unfolding is_comment
row_blank = refl

row_no_comment : is_comment (13 ∷ []) ≡ false
unfolding is_comment
row_no_comment = refl
