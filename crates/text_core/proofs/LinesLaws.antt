-- Lemmas on lines and tokens: removal of the first one.
use Rattle.std.proofs.Common.{◌≡◌, ℕ, ◌+◌, zero, suc, ◌<◌, ◌≤◌, Bool, true, false, nat_eq, not, ◌&&◌, cond, append-nil, List, [], ◌∷◌, ◌++◌, Option, Some, None, length, get_or, take, drop, refl, sym, ap, ◌∙◌, arith}
use Rattle.std.specs.List.{onto_first, position, position_or_len}
use Rattle.std.specs.Option.{option_map}
use Rattle.std.proofs.lemmas.Bool.Decides.{nat_tests}
use Rattle.std.proofs.lemmas.List.{take_all}
use Rattle.std.proofs.lemmas.List.Quantifiers.{position-Some}
use Rattle.std.proofs.lemmas.List.Sums.{fails_before_first}
use lib.ListN.{take-append-drop}
use Rattle.text_core.specs.inner.Pieces.{split_once}
use Rattle.text_core.proofs.PiecesLaws.{lacks, lacks_parts, split_once_joined, split_once_front}
use Rattle.text_core.specs.Lines.{lines, is_blank, ends_word, words}

-- A line and the rest after its end.
pub lines_ended : (l bs : List ℕ) → lacks 10 l ≡ true → lines (l ++ 10 ∷ bs) ≡ l ∷ lines bs
lines_ended [] bs h = refl
lines_ended (b ∷ l) bs h =
    let parts = lacks_parts 10 b l h in
    rw (parts.0, lines_ended l bs parts.1) refl

-- A last line without its end.
pub lines_last : (b : ℕ) (l : List ℕ) → lacks 10 (b ∷ l) ≡ true → lines (b ∷ l) ≡ (b ∷ l) ∷ []
lines_last b [] h = let parts = lacks_parts 10 b [] h in rw parts.0 refl
lines_last b (c ∷ l) h =
    let parts = lacks_parts 10 b (c ∷ l) h in
    rw (parts.0, lines_last c l parts.1) refl

-- The lines, by splitting at the first byte 10.
pub lines_cut : (bs l rest : List ℕ) → split_once 10 bs ≡ Some (l, rest) → lines bs ≡ l ∷ lines rest
lines_cut bs l rest cut = ap lines (split_once_joined 10 bs l rest cut) ∙ lines_ended l rest (split_once_front 10 bs l rest cut)

-- A string that is not split is one line.
none_parts : (t : Bool) (p : List ℕ × List ℕ) (f : List ℕ × List ℕ → List ℕ × List ℕ) (r : Option (List ℕ × List ℕ)) → cond t (Some p) (option_map f r) ≡ None → (t ≡ false) × (r ≡ None)
none_parts true p f r h = cc
none_parts false p f None h = (refl, refl)
none_parts false p f (Some q) h = cc

none_lacks : (mark : ℕ) (bs : List ℕ) → split_once mark bs ≡ None → lacks mark bs ≡ true
none_lacks mark [] h = refl
none_lacks mark (b ∷ bs) h =
    let parts = none_parts (nat_eq b mark) ([], bs) (λ parts. (b ∷ parts.0, parts.1)) (split_once mark bs) h in
    rw (parts.0, none_lacks mark bs parts.1) refl

pub lines_whole : (bs : List ℕ) → 0 < length bs → split_once 10 bs ≡ None → lines bs ≡ bs ∷ []
lines_whole [] some h = absurd (omega arith)
lines_whole (b ∷ bs) some h = lines_last b bs (none_lacks 10 (b ∷ bs) h)

-- Leading blanks are skipped.
pub words_past_blanks : (i : ℕ) (bs : List ℕ) → ((k : ℕ) → k < i → is_blank (get_or bs k 0) ≡ true) → i ≤ length bs → words (drop i bs) ≡ words bs
words_past_blanks zero bs h within = refl
words_past_blanks (suc i) [] h within = refl
words_past_blanks (suc i) (b ∷ bs) h within =
    rw (h 0 (omega arith)) (words_past_blanks i bs (λ k below. h (suc k) (omega arith)) (omega arith))

-- No byte of the string is a blank.
abbrev pub has_no_blank : List ℕ → Bool
has_no_blank [] = true
has_no_blank (b ∷ bs) = not (is_blank b) && has_no_blank bs

pub no_blank_parts : (b : ℕ) (bs : List ℕ) → has_no_blank (b ∷ bs) ≡ true → (is_blank b ≡ false) × (has_no_blank bs ≡ true)
no_blank_parts b bs h = grind (arith, nat_tests)

-- A token before a blank or at the end.
pub words_of_word : (b : ℕ) (w rest : List ℕ) → has_no_blank (b ∷ w) ≡ true → ends_word rest ≡ true → words ((b ∷ w) ++ rest) ≡ (b ∷ w) ∷ words rest
words_of_word b [] rest h ends = let parts = no_blank_parts b [] h in rw (parts.0, ends) refl
words_of_word b (c ∷ w) rest h ends =
    let parts = no_blank_parts b (c ∷ w) h in
    let next = no_blank_parts c w parts.1 in
    let others = words_of_word c w rest parts.1 ends in
    rw (parts.0, next.0) (ap (onto_first b) (rw next.0 at others))

-- The first index of a blank ends the token.
no_blank_before : (i : ℕ) (bs : List ℕ) → ((k : ℕ) → k < i → is_blank (get_or bs k 0) ≡ false) → i ≤ length bs → has_no_blank (take i bs) ≡ true
no_blank_before zero bs h within = refl
no_blank_before (suc i) [] h within = refl
no_blank_before (suc i) (b ∷ bs) h within =
    rw (h 0 (omega arith), no_blank_before i bs (λ k below. h (suc k) (omega arith)) (omega arith)) refl

ends_at : (i : ℕ) (bs : List ℕ) → is_blank (get_or bs i 0) ≡ true → i < length bs → ends_word (drop i bs) ≡ true
ends_at zero [] h within = refl
ends_at zero (b ∷ bs) h within = h
ends_at (suc i) [] h within = refl
ends_at (suc i) (b ∷ bs) h within = ends_at i bs h (omega arith)

pub words_cut : (i : ℕ) (bs : List ℕ) → 0 < i → i < length bs → is_blank (get_or bs i 0) ≡ true → ((k : ℕ) → k < i → is_blank (get_or bs k 0) ≡ false) → words bs ≡ take i bs ∷ words (drop i bs)
words_cut zero bs some within h before = absurd (omega arith)
words_cut (suc i) [] some within h before = absurd (omega arith)
words_cut (suc i) (b ∷ bs) some within h before =
    ap words (sym (take-append-drop (suc i) (b ∷ bs))) ∙ words_of_word b (take i bs) (drop i bs) (no_blank_before (suc i) (b ∷ bs) before (omega arith)) (ends_at i bs h (omega arith))

pub words_last : (bs : List ℕ) → 0 < length bs → ((k : ℕ) → k < length bs → is_blank (get_or bs k 0) ≡ false) → words bs ≡ bs ∷ []
words_last [] some before = absurd (omega arith)
words_last (b ∷ bs) some before =
    let whole : has_no_blank (b ∷ bs) ≡ true =
    ap has_no_blank (sym (take_all (length (b ∷ bs)) (b ∷ bs) (omega arith))) ∙ no_blank_before (length (b ∷ bs)) (b ∷ bs) before (omega arith) in
    ap words (sym (append-nil (b ∷ bs))) ∙ words_of_word b bs [] whole refl

pub words_nothing : (bs : List ℕ) → ((k : ℕ) → k < length bs → is_blank (get_or bs k 0) ≡ true) → words bs ≡ []
words_nothing [] h = refl
words_nothing (b ∷ bs) h = rw (h 0 (omega arith)) (words_nothing bs (λ k below. h (suc k) (omega arith)))

unblank : (b : ℕ) → not (is_blank b) ≡ false → is_blank b ≡ true
unblank b h = grind (arith, nat_tests)

-- The same with the index that a search returns.
pub lines_none : (bs : List ℕ) → length bs ≡ 0 → lines bs ≡ []
lines_none [] h = refl
lines_none (b ∷ bs) h = absurd (omega arith)

head_of_drop : (i : ℕ) (bs : List ℕ) → get_or (drop i bs) 0 0 ≡ get_or bs i 0
head_of_drop zero [] = refl
head_of_drop zero (b ∷ bs) = refl
head_of_drop (suc i) [] = refl
head_of_drop (suc i) (b ∷ bs) = head_of_drop i bs

pub words_past : (i : ℕ) (bs : List ℕ) → position (λ b. not (is_blank b)) bs ≡ Some i → words (drop i bs) ≡ words bs
words_past i bs h =
    let found = position-Some (λ b. not (is_blank b)) bs i 0 h in
    let before : (k : ℕ) → k < i → is_blank (get_or bs k 0) ≡ true = λ k below. unblank (get_or bs k 0) (found.2 k below) in
    words_past_blanks i bs before (omega (arith, found.0))

pub word_begins : (i : ℕ) (bs : List ℕ) → position (λ b. not (is_blank b)) bs ≡ Some i → is_blank (get_or (drop i bs) 0 0) ≡ false
word_begins i bs h =
    let found = position-Some (λ b. not (is_blank b)) bs i 0 h in
    let here : is_blank (get_or bs i 0) ≡ false = grind (arith, nat_tests, found.1) in
    ap is_blank (head_of_drop i bs) ∙ here

far : (p : ℕ → Bool) (xs : List ℕ) → position p xs ≡ None → length xs ≤ position_or_len p xs
far p xs e = grind (arith, nat_tests)

pub words_past_none : (bs : List ℕ) → position (λ b. not (is_blank b)) bs ≡ None → words bs ≡ []
words_past_none bs h = words_nothing bs (λ k below. unblank (get_or bs k 0) (fails_before_first (λ b. not (is_blank b)) bs k 0 (omega (arith, far (λ b. not (is_blank b)) bs h))))

positive : (i : ℕ) (bs : List ℕ) → is_blank (get_or bs 0 0) ≡ false → is_blank (get_or bs i 0) ≡ true → 0 < i
positive zero bs word blank = cc
positive (suc i) bs word blank = omega arith

pub words_first : (i : ℕ) (bs : List ℕ) → is_blank (get_or bs 0 0) ≡ false → position is_blank bs ≡ Some i → words bs ≡ take i bs ∷ words (drop i bs)
words_first i bs word h =
    let found = position-Some is_blank bs i 0 h in
    words_cut i bs (positive i bs word found.1) found.0 found.1 found.2

pub words_only : (bs : List ℕ) → 0 < length bs → position is_blank bs ≡ None → words bs ≡ bs ∷ []
words_only bs some h = words_last bs some (λ k below. fails_before_first is_blank bs k 0 (omega (arith, far is_blank bs h)))

-- A text has at most as many lines as bytes.
onto_first_length : (b : ℕ) (ls : List (List ℕ)) → length (onto_first b ls) ≤ length ls + 1
onto_first_length b [] = omega arith
onto_first_length b (l ∷ ls) = omega arith

onto_first_more : (b : ℕ) (ls : List (List ℕ)) (n : ℕ) → length ls ≤ n → length (onto_first b ls) ≤ n + 1
onto_first_more b ls n h = omega (arith, onto_first_length b ls)

few_by_test : (t : Bool) (b : ℕ) (ls : List (List ℕ)) (n : ℕ) → length ls ≤ n → length (cond t ([] ∷ ls) (onto_first b ls)) ≤ suc n
few_by_test true b ls n h = omega arith
few_by_test false b ls n h = omega (arith, onto_first_more b ls n h)

pub length-lines : (bs : List ℕ) → length (lines bs) ≤ length bs
length-lines [] = omega arith
length-lines (b ∷ bs) = few_by_test (nat_eq b 10) b (lines bs) (length bs) (length-lines bs)
