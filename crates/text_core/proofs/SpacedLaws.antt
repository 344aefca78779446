-- A text that is built from tokens and lines is parsed to these tokens and lines.
use Rattle.std.proofs.Common.{◌≡◌, ℕ, Bool, true, false, List, [], ◌∷◌, ◌++◌, append_assoc, refl, sym, ap, ◌∙◌, arith, nat_eq}
use Rattle.std.specs.Prelude.{nat_lt}
use Rattle.std.specs.List.{list_all}
use Rattle.std.proofs.lemmas.Bool.{and_parts}
use Rattle.std.proofs.lemmas.Bool.Decides.{nat_tests}
use Rattle.text_core.proofs.PiecesLaws.{lacks, lacks-append}
use Rattle.text_core.specs.Lines.{words, is_blank, ends_word}
use Rattle.text_core.proofs.LinesLaws.{has_no_blank, words_of_word}

-- Tokens after a token, each preceded by a blank (32).
abbrev pub behind : List (List ℕ) → List ℕ
behind [] = []
behind (w ∷ ws) = 32 ∷ (w ++ behind ws)

-- Tokens separated by one blank.
abbrev pub spaced : List (List ℕ) → List ℕ
spaced [] = []
spaced (w ∷ ws) = w ++ behind ws

-- A token: nonempty, and without blanks.
abbrev pub is_word : List ℕ → Bool
is_word [] = false
is_word (b ∷ bs) = has_no_blank (b ∷ bs)

behind_ends : (ws : List (List ℕ)) → ends_word (behind ws) ≡ true
behind_ends [] = refl
behind_ends (w ∷ ws) = refl

word_then : (w rest : List ℕ) → is_word w ≡ true → ends_word rest ≡ true → words (w ++ rest) ≡ w ∷ words rest
word_then [] rest h ends = cc
word_then (b ∷ w) rest h ends = words_of_word b w rest h ends

words_behind : (ws : List (List ℕ)) → list_all is_word ws ≡ true → words (behind ws) ≡ ws
words_behind [] h = refl
words_behind (w ∷ ws) h =
    let parts = and_parts (is_word w) (list_all is_word ws) h in
    word_then w (behind ws) parts.0 (behind_ends ws) ∙ ap (λ vs. w ∷ vs) (words_behind ws parts.1)

-- Spaced tokens are parsed to these tokens.
pub words_spaced : (ws : List (List ℕ)) → list_all is_word ws ≡ true → words (spaced ws) ≡ ws
words_spaced [] h = refl
words_spaced (w ∷ ws) h =
    let parts = and_parts (is_word w) (list_all is_word ws) h in
    word_then w (behind ws) parts.0 (behind_ends ws) ∙ ap (λ vs. w ∷ vs) (words_behind ws parts.1)

pub behind-append : (xs ys : List (List ℕ)) → behind (xs ++ ys) ≡ behind xs ++ behind ys
behind-append [] ys = refl
behind-append (x ∷ xs) ys =
    ap (λ bs. 32 ∷ bs) (ap (λ bs. x ++ bs) (behind-append xs ys) ∙ sym (append_assoc x (behind xs) (behind ys)))

-- Spaced tokens without byte 10 are a line.
lacks_behind : (ws : List (List ℕ)) → list_all (lacks 10) ws ≡ true → lacks 10 (behind ws) ≡ true
lacks_behind [] h = refl
lacks_behind (w ∷ ws) h =
    let parts = and_parts (lacks 10 w) (list_all (lacks 10) ws) h in
    lacks-append 10 w (behind ws) parts.0 (lacks_behind ws parts.1)

pub lacks_spaced : (ws : List (List ℕ)) → list_all (lacks 10) ws ≡ true → lacks 10 (spaced ws) ≡ true
lacks_spaced [] h = refl
lacks_spaced (w ∷ ws) h =
    let parts = and_parts (lacks 10 w) (list_all (lacks 10) ws) h in
    lacks-append 10 w (behind ws) parts.0 (lacks_behind ws parts.1)

-- A string of printable bytes is a token, and it contains no line end.
abbrev pub prints : ℕ → Bool
prints b = nat_lt 32 b

no_blank : (b : ℕ) → prints b ≡ true → is_blank b ≡ false
no_blank b h = grind (arith, nat_tests)

no_end : (b : ℕ) → prints b ≡ true → nat_eq b 10 ≡ false
no_end b h = grind (arith, nat_tests)

print_parts : (b : ℕ) (bs : List ℕ) → list_all prints (b ∷ bs) ≡ true → (is_blank b ≡ false) × (nat_eq b 10 ≡ false) × (list_all prints bs ≡ true)
print_parts b bs h =
    let parts = and_parts (prints b) (list_all prints bs) h in
    (no_blank b parts.0, no_end b parts.0, parts.1)

pub prints_no_blank : (bs : List ℕ) → list_all prints bs ≡ true → has_no_blank bs ≡ true
prints_no_blank [] h = refl
prints_no_blank (b ∷ bs) h =
    let parts = print_parts b bs h in
    rw (parts.0, prints_no_blank bs parts.2) refl

pub prints_lacks : (bs : List ℕ) → list_all prints bs ≡ true → lacks 10 bs ≡ true
prints_lacks [] h = refl
prints_lacks (b ∷ bs) h =
    let parts = print_parts b bs h in
    rw (parts.1, prints_lacks bs parts.2) refl
