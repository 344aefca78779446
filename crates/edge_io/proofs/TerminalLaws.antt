-- Laws of bytes as a terminal is shown them: piece by piece, and where no byte is a control code.
use Rattle.std.proofs.Common.{◌≡◌, ℕ, Bool, true, None, Some, slice_get, if◌then◌else◌, ◌+◌, ◌<◌, ◌≤◌, false, inl, inr, List, [], ◌∷◌, ◌++◌, refl, sym, ap, ◌∙◌, length, take, get_or, arith, append_assoc}
use Rattle.std.proofs.Math.Nat.{eq-or-lt_of_le}
use Rattle.std.proofs.lemmas.List.{take_more}
use Rattle.edge_io.specs.TerminalText.{all_shown, escape_of, is_code, last_of, shown}

pub all_shown-append : (last : ℕ) (xs ys : List ℕ) → all_shown last (xs ++ ys) ≡ all_shown last xs ++ all_shown (last_of last xs) ys
all_shown-append last [] ys = refl
all_shown-append last (x ∷ xs) ys =
    ap (λ rest. shown last x ++ rest) (all_shown-append x xs ys) ∙ sym (append_assoc (shown last x) (all_shown x xs) (all_shown (last_of x xs) ys))

pub last_of-append : (last : ℕ) (xs ys : List ℕ) → last_of last (xs ++ ys) ≡ last_of (last_of last xs) ys
last_of-append last [] ys = refl
last_of-append last (x ∷ xs) ys = last_of-append x xs ys

-- A byte that is no control code is shown as it is.
pub shown_plain : (last byte : ℕ) → is_code last byte ≡ false → shown last byte ≡ byte ∷ []
shown_plain last byte plain = rw plain refl

-- The last of one byte more is this byte.
pub last_of_more : (last : ℕ) (piece : List ℕ) (i d : ℕ) → i < length piece → last_of last (take (i + 1) piece) ≡ get_or piece i d
last_of_more last piece i d inside = ap (last_of last) (take_more piece i d inside) ∙ last_of-append last (take i piece) (get_or piece i d ∷ [])

-- One byte more that is no control code is shown as it is, after bytes that are.
pub plain_more : (last : ℕ) (piece : List ℕ) (i d : ℕ) → i < length piece → all_shown last (take i piece) ≡ take i piece
    → is_code (last_of last (take i piece)) (get_or piece i d) ≡ false → all_shown last (take (i + 1) piece) ≡ take (i + 1) piece
plain_more last piece i d inside front plain =
    let byte : ℕ = get_or piece i d in
    ap (all_shown last) (take_more piece i d inside)
    ∙ all_shown-append last (take i piece) (byte ∷ [])
    ∙ ap (λ xs. xs ++ (shown (last_of last (take i piece)) byte ++ [])) front
    ∙ ap (λ one. take i piece ++ (one ++ [])) (shown_plain (last_of last (take i piece)) byte plain)
    ∙ sym (take_more piece i d inside)

-- The same for all of the first bytes.
pub all_plain_more : (last : ℕ) (piece : List ℕ) (i d : ℕ) → i < length piece → ((n : ℕ) → n ≤ i → all_shown last (take n piece) ≡ take n piece)
    → is_code (last_of last (take i piece)) (get_or piece i d) ≡ false → (n : ℕ) → n ≤ i + 1 → all_shown last (take n piece) ≡ take n piece
all_plain_more last piece i d inside front plain n within =
    elim (eq-or-lt_of_le within) [
      | inl is ↦ rw is (plain_more last piece i d inside (front i (omega arith)) plain)
      | inr less ↦ front n (omega (arith, less))
    ]

-- A control code at the front is shown as its escape.
pub code_shown : (is_terminal : Bool) (last byte : ℕ) (piece : List ℕ) → slice_get piece 0 ≡ Some byte
    → ((first : ℕ) (rest : List ℕ) → piece ≡ first ∷ rest → (is_terminal ≡ true) × (is_code last first ≡ true))
    → (if is_terminal then all_shown last (take 1 piece) else take 1 piece) ≡ escape_of byte
code_shown is_terminal last byte [] found code = let none : None ≡ Some byte = found in cc
code_shown is_terminal last byte (first ∷ rest) found code =
    let some : Some first ≡ Some byte = found in
    let same : first ≡ byte = cc in
    let both : (is_terminal ≡ true) × (is_code last first ≡ true) = code first rest refl in
    rw both.0 (rw both.1 (ap escape_of same))
