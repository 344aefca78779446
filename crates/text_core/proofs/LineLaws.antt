-- Lemmas on lines: parts that are truncated in sequence are the whole string, truncated once.
use Rattle.std.proofs.Common.{◌≡◌, ℕ, zero, suc, ◌≤◌, ◌∙◌, List, [], ◌∷◌, ◌++◌, take, length, refl, sym, ap, arith, append-nil, length-take}
use Rattle.std.proofs.lemmas.List.{take_all}
use Rattle.text_core.specs.inner.Line.{cut}

take_front : (n : ℕ) (a b : List ℕ) → take n (take n a ++ b) ≡ take n (a ++ b)
take_front zero a b = refl
take_front (suc n) [] b = refl
take_front (suc n) (x ∷ a) b = ap (λ bs. x ∷ bs) (take_front n a b)

pub cut_cut : (room : ℕ) (a b : List ℕ) → cut room (cut room a ++ b) ≡ cut room (a ++ b)
unfolding cut
cut_cut room a b = take_front room a b

-- A string that fits is complete.
pub cut_whole : (room : ℕ) (a : List ℕ) → length a ≤ room → cut room a ≡ a
unfolding cut
cut_whole room a fits = take_all room a fits

-- An empty part leaves the line unchanged.
pub nothing_put : (room at : ℕ) (buffer : List ℕ) → at ≤ room → take at buffer ≡ cut room (take at buffer ++ [])
nothing_put room at buffer h =
    let short : length (take at buffer) ≤ room = omega (arith, length-take at buffer) in
    sym (ap (cut room) (append-nil (take at buffer)) ∙ cut_whole room (take at buffer) short)

-- A line of at most `most` bytes is complete in the buffer.
pub record IsWhole (most : ℕ) (buffer line : List ℕ) (end : ℕ) : Type 0 where
  pub same : take end buffer ≡ line
  pub short : end ≤ most

pub put_whole : (room most : ℕ) (buffer line : List ℕ) (end : ℕ) → length buffer ≡ room → end ≤ room → most ≤ room → length line ≤ most
    → take end buffer ≡ cut room line → IsWhole most buffer line end
put_whole room most buffer line end wide within fits short put =
    let same : take end buffer ≡ line = put ∙ cut_whole room line (omega (arith, short, fits)) in
    record { same = same; short = omega (arith, length-take end buffer, ap length same, short, within, wide) }
