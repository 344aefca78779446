-- The action of a line: one token, followed only by blanks.
use Rattle.std.proofs.Common.{◌≡◌, inl, inr, ℕ, true, false, List, [], ◌∷◌, ◌++◌, Option, Some, None, take, drop, get_or, position, refl, sym, ap, ◌∙◌, append-nil, arith, length, ◌<◌}
use Rattle.std.specs.Prelude.{codes, if◌then◌else◌}
use Rattle.std.specs.List.{list_all, onto_first}
use Rattle.std.proofs.lemmas.Bool.{and_parts, and_from}
use Rattle.std.proofs.lemmas.List.{take-append-drop}
use Rattle.text_core.specs.Lines.{words, is_blank, ends_word}
use Rattle.text_core.proofs.LinesLaws.{words_of_word, has_no_blank, words_first, words_only}
use Rattle.text_core.proofs.StepsLaws.{if_parts, bytes_same}
use Rattle.ofp_rules.specs.declared.entry.Action.{Action}
use Rattle.ofp_rules.specs.declared.entry.Action.TheVariants.{Normal, Drop}
use Rattle.ofp_read.proofs.NamedLaws.{named_is}
use Rattle.ofp_read.specs.inner.FlowLine.{actions, action_of}
use Rattle.ofp_read.specs.inner.Cut.{begins_action}
use Rattle.ofp_read.specs.Grammar.{IsActionText}

blank_words : (bs : List ℕ) → words bs ≡ [] → list_all is_blank bs ≡ true
blank_words [] h = refl
blank_words (b ∷ bs) h =
    elim (if_parts (is_blank b) (words bs) (if ends_word bs then (b ∷ []) ∷ words bs else onto_first b (words bs)) [] h) [
      | inl blank ↦ and_from (is_blank b) (list_all is_blank bs) blank.0 (blank_words bs blank.1)
      | inr word ↦ elim (if_parts (ends_word bs) ((b ∷ []) ∷ words bs) (onto_first b (words bs)) [] word.1) [
        | inl ends ↦ cc
        | inr more ↦ absurd (onto_some b (words bs) more.1)
      ]
    ]
  where
    onto_some : (b : ℕ) (ws : List (List ℕ)) → onto_first b ws ≡ [] → ⊥
    onto_some b [] h = cc
    onto_some b (w ∷ ws) h = cc

-- A text that begins with a token and has no other consists of the token and blanks.
pub record IsOneWord (text word : List ℕ) : Type 0 where
  pub blanks : List ℕ
  pub whole : text ≡ word ++ blanks
  pub blank : list_all is_blank blanks ≡ true

same_words : (v w : List ℕ) (vs : List (List ℕ)) → v ∷ vs ≡ w ∷ [] → (v ≡ w) × (vs ≡ [])
same_words v w vs h = (cc, cc)

one_word_by : (text w : List ℕ) (o : Option ℕ) → 0 < length text → is_blank (get_or text 0 0) ≡ false → position is_blank text ≡ o
    → words text ≡ w ∷ [] → IsOneWord text w
one_word_by text w None some first is h =
    let same = same_words text w [] (sym (words_only text some is) ∙ h) in
    record { blanks = []; whole = same.0 ∙ sym (append-nil w); blank = refl }
one_word_by text w (Some end) some first is h =
    let same = same_words (take end text) w (words (drop end text)) (sym (words_first end text first is) ∙ h) in
    record {
      blanks = drop end text;
      whole = sym (take-append-drop end text) ∙ ap (λ xs. xs ++ drop end text) same.0;
      blank = blank_words (drop end text) same.1;
    }

first_no_blank : (b : ℕ) (bs : List ℕ) → begins_action (b ∷ bs) ≡ true → is_blank b ≡ false
first_no_blank b bs h =
    let starts : take 8 (b ∷ bs) ≡ codes "actions=" = bytes_same (take 8 (b ∷ bs)) (codes "actions=") h in
    let first : b ≡ 97 = ap (λ xs. get_or xs 0 0) starts in
    ap is_blank first

pub word_of_text : (text w : List ℕ) → begins_action text ≡ true → words text ≡ w ∷ [] → IsOneWord text w
word_of_text [] w starts h = cc
word_of_text (b ∷ bs) w starts h =
    one_word_by (b ∷ bs) w (position is_blank (b ∷ bs)) (omega arith) (first_no_blank b bs starts) refl h

pub action_said : (ws : List (List ℕ)) (a : Action) → action_of ws ≡ Some a → (w : List ℕ) × (ws ≡ w ∷ []) × IsActionText a w
action_said [] a h = cc
action_said (w ∷ []) a h = (w, refl, named_is (λ text b. IsActionText b text) w actions a h (inl refl, (inr refl, (refl, tt))))
action_said (w ∷ v ∷ ws) a h = cc

words_blank : (bs : List ℕ) → list_all is_blank bs ≡ true → words bs ≡ []
words_blank [] h = refl
words_blank (b ∷ bs) h =
    let parts = and_parts (is_blank b) (list_all is_blank bs) h in
    ap (λ t. if t then words bs else if ends_word bs then (b ∷ []) ∷ words bs else onto_first b (words bs)) parts.0 ∙ words_blank bs parts.1

ends_blank : (bs : List ℕ) → list_all is_blank bs ≡ true → ends_word bs ≡ true
ends_blank [] h = refl
ends_blank (b ∷ bs) h = (and_parts (is_blank b) (list_all is_blank bs) h).0

word_read : (b : ℕ) (w blanks : List ℕ) → has_no_blank (b ∷ w) ≡ true → list_all is_blank blanks ≡ true
    → words ((b ∷ w) ++ blanks) ≡ (b ∷ w) ∷ []
word_read b w blanks word blank =
    words_of_word b w blanks word (ends_blank blanks blank) ∙ ap (λ ws. (b ∷ w) ∷ ws) (words_blank blanks blank)

pub action_read : (a : Action) (text blanks : List ℕ) → IsActionText a text → list_all is_blank blanks ≡ true
    → (begins_action (text ++ blanks) ≡ true) × (action_of (words (text ++ blanks)) ≡ Some a)
action_read Normal text blanks (inl e) blank = (
  ap (λ t. begins_action (t ++ blanks)) e,
  ap (λ t. action_of (words (t ++ blanks))) e ∙ ap action_of
      (word_read 97 (codes "ctions=NORMAL") blanks refl blank),
)
action_read Normal text blanks (inr e) blank = (
  ap (λ t. begins_action (t ++ blanks)) e,
  ap (λ t. action_of (words (t ++ blanks))) e ∙ ap action_of
      (word_read 97 (codes "ctions=normal") blanks refl blank),
)
action_read Drop text blanks e blank = (
  ap (λ t. begins_action (t ++ blanks)) e,
  ap (λ t. action_of (words (t ++ blanks))) e ∙ ap action_of
      (word_read 97 (codes "ctions=drop") blanks refl blank),
)
