-- A string is split at the first index of the separator.
use Rattle.std.proofs.Common.{◌≡◌, ℕ, zero, suc, ◌+◌, ◌<◌, ◌≤◌, ◌-◌, cond, not, ◌&&◌, true, false, nat_eq, ◌==◌, List, [], ◌∷◌, Some, None, length, get_or, take, drop, add-one, length-drop, refl, sym, arith}
use Rattle.std.proofs.lemmas.Bool.Decides.{nat_tests}
use Rattle.std.specs.List.{position, position_or_len}
use Rattle.std.proofs.lemmas.List.{take_all}
use Rattle.std.proofs.lemmas.List.Quantifiers.{position-Some}
use Rattle.text_core.specs.inner.Pieces.{split_once}
use Rattle.text_core.proofs.PiecesLaws.{lacks}

pub split_at_place : (mark i : ℕ) (bs : List ℕ) → i < length bs → nat_eq (get_or bs i 0) mark ≡ true → ((k : ℕ) → k < i → nat_eq (get_or bs k 0) mark ≡ false) → split_once mark bs ≡ Some (take i bs, drop (suc i) bs)
split_at_place mark i [] h here before = absurd (omega arith)
split_at_place mark zero (b ∷ bs) h here before = rw here refl
split_at_place mark (suc i) (b ∷ bs) h here before =
    rw (before 0 (omega arith), split_at_place mark i bs (omega arith) here (λ k below. before (suc k) (omega arith))) refl

lacks_far : (mark : ℕ) (bs : List ℕ) → length bs ≤ position_or_len (λ b. b == mark) bs → lacks mark bs ≡ true
lacks_far mark [] h = refl
lacks_far mark (b ∷ bs) h =
    elim (nat_eq b mark) as (λ t. suc (length bs) ≤ cond (not t) (1 + position_or_len (λ b. b == mark) bs) 0 → (not t && lacks mark bs) ≡ true) [
      | true ↦ λ far. absurd (omega arith)
      | false ↦ λ far. lacks_far mark bs (omega arith)
    ] h

past_end : (mark : ℕ) (bs : List ℕ) → position (λ b. b == mark) bs ≡ None → length bs ≤ position_or_len (λ b. b == mark) bs
past_end mark bs h = grind (arith, nat_tests)

pub nowhere_lacks : (mark : ℕ) (bs : List ℕ) → position (λ b. b == mark) bs ≡ None → lacks mark bs ≡ true
nowhere_lacks mark bs h = lacks_far mark bs (past_end mark bs h)

-- The same with the index that a search returns, in terms of the code.
pub split_somewhere : (mark at : ℕ) (bs : List ℕ) → position (λ b. b == mark) bs ≡ Some at → Some (take at bs, take (length bs - (at + 1)) (drop (at + 1) bs)) ≡ split_once mark bs
split_somewhere mark at bs h =
    let found = position-Some (λ b. b == mark) bs at 0 h in
    rw (add-one at, take_all (length bs - suc at) (drop (suc at) bs) (omega (arith, length-drop (suc at) bs))) (sym (split_at_place mark at bs found.0 found.1 found.2))
