-- The effect of one part of a line on the buffer.
use Rattle.std.proofs.Common.{◌≡◌, ℕ, ◌+◌, ◌-◌, ◌<◌, ◌≤◌, min, List, [], ◌∷◌, ◌++◌, take, set, length, ap, sym, ◌∙◌, arith, length-append, length-take}
use Rattle.std.proofs.lemmas.List.{take_all, take_min, take_more_set, take-append-le, length-take-le}
use Rattle.std.proofs.lemmas.Slice.{take-put_mid}
use Rattle.std.proofs.Math.Seq.{take-append-add}
use Rattle.text_core.specs.inner.Line.{cut}
use Rattle.text_core.proofs.LineLaws.{cut_whole}
use borrow.Rule.Slice.PartMut.{put_mid}

-- A part is written as far as it fits after the bytes so far.
pub cut_piece : (room at : ℕ) (front piece : List ℕ) → length front ≡ at → at ≤ room
    → cut room (front ++ piece) ≡ front ++ take (room - at) piece
unfolding cut
cut_piece room at front piece e h =
    let whole : room ≡ length front + (room - at) = omega arith in
    ap (λ n. take n (front ++ piece)) whole ∙ take-append-add front piece (room - at)

pub piece_put : (room at fits : ℕ) (old piece new : List ℕ) → at ≤ room → length old ≡ room → fits ≡ min (room - at) (length piece)
    → new ≡ take fits piece → take (at + fits) (put_mid at (at + fits - at) old new) ≡ cut room (take at old ++ piece)
piece_put room at fits old piece new h whole e written =
    let front : length (take at old) ≡ at = length-take-le at old (omega arith) in
    let taken : new ≡ take (room - at) piece = written ∙ ap (λ n. take n piece) e ∙ take_min (room - at) piece in
    let width : at + fits ≡ at + length new = omega (arith, ap length written, length-take fits piece) in
    take-put_mid at (at + fits - at) old new (at + fits) width (omega arith)
    ∙ ap (λ bs. take at old ++ bs) taken
    ∙ sym (cut_piece room at (take at old) piece front h)

-- A byte is written if it fits.
pub byte_put : (room at byte : ℕ) (old : List ℕ) → length old ≡ room → at < room → take (at + 1) (set old at byte) ≡ cut room (take at old ++ byte ∷ [])
byte_put room at byte old whole there =
    let front = take at old in
    let short : length (front ++ byte ∷ []) ≤ room = omega (arith, length-append front (byte ∷ []), length-take-le at old (omega arith)) in
    take_more_set old at byte (omega arith) ∙ sym (cut_whole room (front ++ byte ∷ []) short)

-- It is dropped if the buffer is full.
pub byte_left : (room at byte : ℕ) (old : List ℕ) → length old ≡ room → at ≡ room → take at old ≡ cut room (take at old ++ byte ∷ [])
unfolding cut
byte_left room at byte old whole full =
    let front = take at old in
    let long : length front ≡ room = omega (arith, full, length-take-le at old (omega (arith, whole, full))) in
    sym (take-append-le room front (byte ∷ []) (omega arith) ∙ take_all room front (omega arith))
