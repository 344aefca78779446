-- A line that is not parsed as an edit is bad in terms of the format, for the reported reason. A file has either a parse result or a first
-- error.
use Rattle.std.proofs.Common.{◌≡◌, ℕ, true, List, [], ◌∷◌, Option, Some, None, ◌⊎◌, inl, inr, sym, ap, ◌∙◌, arith, subst}
use Rattle.std.specs.Prelude.{codes, decimal, Result, Ok, Err, bytes_eq}
use Rattle.std.specs.Option.{option_map, ok_or}
use Rattle.text_core.specs.Lines.{words}
use Rattle.text_core.specs.ListFormat.{IsBad, bad_line, bad_value, by_lines}
use Rattle.text_core.specs.inner.ListAnswers.{EncodesAtMostOne, EncodesOnlyWellFormed}
use Rattle.text_core.proofs.ListFormatLaws.{list_settled}
use Rattle.text_core.proofs.LineFormatLaws.{IsSettled, same_ok}
use Rattle.text_core.proofs.StepsLaws.{if_parts, bytes_same}
use Rattle.text_core.specs.declared.faults.ListWhy.{ListWhy}
use Rattle.text_core.specs.declared.faults.ListWhy.TheVariants.{BadLine, BadValue}
use Rattle.edit_core.specs.Behind.{after_first_word}
use Rattle.edit_core.proofs.ChangeLaws.{told_change}
use Rattle.edit_core.specs.inner.ChangeSteps.{add_of, assigned, change_of, change_of_words, remove_of, removed, set_of, texts_of, unassigned, unset_of}
use Rattle.edit_core.specs.Edit.{Change, Add, Remove, Set, Unset, Edit}
use Rattle.edit_core.specs.EditsText.{IsForm, EncodesChange, add, edits_text, remove, set, unset}

-- 1. The reasons why tokens encode no change.

value_not_line : {A : Type 0} (o : Option A) → ok_or o BadValue ≡ Err BadLine → ⊥
value_not_line None h = cc
value_not_line (Some x) h = cc

-- Tokens of a valid shape are rejected only for a value.
form_read : (ws : List (List ℕ)) (text : List ℕ) → IsForm ws → change_of_words ws text ≡ Err BadLine → ⊥
form_read ws text (add a b rest is) h =
    value_not_line (option_map Add (texts_of (a ∷ b ∷ rest))) (ap (λ xs. change_of_words xs text) (sym is) ∙ h)
form_read ws text (remove a b is) h = value_not_line (removed a b) (ap (λ xs. change_of_words xs text) (sym is) ∙ h)
form_read ws text (set a word rest is) h = value_not_line (assigned a text) (ap (λ xs. change_of_words xs text) (sym is) ∙ h)
form_read ws text (unset a b is) h = value_not_line (unassigned a b) (ap (λ xs. change_of_words xs text) (sym is) ∙ h)

abbrev Explains : List (List ℕ) → ListWhy → Type 0
Explains ws why = (why ≡ BadLine) ⊎ ((why ≡ BadValue) × IsForm ws)

line_why : (ws : List (List ℕ)) (why : ListWhy) → ◌≡◌ {A = Result Change ListWhy} (Err BadLine) (Err why) → Explains ws why
line_why ws why h = let e : BadLine ≡ why = cc in inl (sym e)

value_why : (ws : List (List ℕ)) (o : Option Change) (why : ListWhy) → IsForm ws → ok_or o BadValue ≡ Err why → Explains ws why
value_why ws None why form h = let e : BadValue ≡ why = cc in inr (sym e, form)
value_why ws (Some c) why form h = cc

add_why : (ws rest : List (List ℕ)) (why : ListWhy) → ws ≡ codes "add" ∷ rest → add_of rest ≡ Err why → Explains ws why
add_why ws [] why is h = line_why ws why h
add_why ws (a ∷ []) why is h = line_why ws why h
add_why ws (a ∷ b ∷ rest) why is h = value_why ws (option_map Add (texts_of (a ∷ b ∷ rest))) why (add a b rest is) h

remove_why : (ws rest : List (List ℕ)) (why : ListWhy) → ws ≡ codes "remove" ∷ rest → remove_of rest ≡ Err why → Explains ws why
remove_why ws [] why is h = line_why ws why h
remove_why ws (a ∷ []) why is h = line_why ws why h
remove_why ws (a ∷ b ∷ []) why is h = value_why ws (removed a b) why (remove a b is) h
remove_why ws (a ∷ b ∷ x ∷ rest) why is h = line_why ws why h

set_why : (ws rest : List (List ℕ)) (text : List ℕ) (why : ListWhy) → ws ≡ codes "set" ∷ rest → set_of text rest ≡ Err why → Explains ws why
set_why ws [] text why is h = line_why ws why h
set_why ws (a ∷ []) text why is h = line_why ws why h
set_why ws (a ∷ word ∷ rest) text why is h = value_why ws (assigned a text) why (set a word rest is) h

unset_why : (ws rest : List (List ℕ)) (why : ListWhy) → ws ≡ codes "unset" ∷ rest → unset_of rest ≡ Err why → Explains ws why
unset_why ws [] why is h = line_why ws why h
unset_why ws (a ∷ []) why is h = line_why ws why h
unset_why ws (a ∷ b ∷ []) why is h = value_why ws (unassigned a b) why (unset a b is) h
unset_why ws (a ∷ b ∷ x ∷ rest) why is h = line_why ws why h

verb_is : (verb name : List ℕ) (rest : List (List ℕ)) → bytes_eq verb name ≡ true → verb ∷ rest ≡ name ∷ rest
verb_is verb name rest same = ap (λ v. v ∷ rest) (bytes_same verb name same)

words_why : (ws : List (List ℕ)) (text : List ℕ) (why : ListWhy) → change_of_words ws text ≡ Err why → Explains ws why
words_why [] text why h = line_why [] why h
words_why (verb ∷ rest) text why h = elim (if_parts (bytes_eq verb (codes "add")) (add_of rest) _ (Err why) h) [
  | inl first ↦ add_why (verb ∷ rest) rest why (verb_is verb (codes "add") rest first.0) first.1
  | inr a ↦ elim (if_parts (bytes_eq verb (codes "remove")) (remove_of rest) _ (Err why) a.1) [
    | inl second ↦ remove_why (verb ∷ rest) rest why (verb_is verb (codes "remove") rest second.0) second.1
    | inr r ↦ elim (if_parts (bytes_eq verb (codes "set")) (set_of text rest) _ (Err why) r.1) [
      | inl third ↦ set_why (verb ∷ rest) rest text why (verb_is verb (codes "set") rest third.0) third.1
      | inr s ↦ elim (if_parts (bytes_eq verb (codes "unset")) (unset_of rest) _ (Err why) s.1) [
        | inl fourth ↦ unset_why (verb ∷ rest) rest why (verb_is verb (codes "unset") rest fourth.0) fourth.1
        | inr bad ↦ line_why (verb ∷ rest) why bad.1
      ]
    ]
  ]
]

explained : (line : List ℕ) (why : ListWhy) → change_of line ≡ Err why → Explains (words line) why
unfolding change_of
explained line why h = words_why (words line) (after_first_word (after_first_word line)) why h

no_form : (line : List ℕ) → change_of line ≡ Err BadLine → IsForm (words line) → ⊥
unfolding change_of
no_form line h form = form_read (words line) (after_first_word (after_first_word line)) form h

-- 2. A line encodes at most one edit. If it encodes one, it has its shape.

tells_one : (line : List ℕ) (x y : Change) → EncodesChange line x → EncodesChange line y → x ≡ y
tells_one line x y p q = same_ok (change_of line) x y (told_change line x p) (told_change line y q)

told_form : (line : List ℕ) (c : Change) → EncodesChange line c → IsForm (words line)
told_form line (Add []) told = absurd (omega (arith, told.1))
told_form line (Add (a ∷ [])) told = absurd (omega (arith, told.1))
told_form line (Add (a ∷ b ∷ ws)) told = add a b ws told.0
told_form line (Remove from to) told = remove from to told.0
told_form line (Set k assign) told = set (decimal k) told.word told.rest told.written
told_form line (Unset k host) told = unset (decimal k) host told.0

pub edit_lines_tell_one : EncodesAtMostOne edits_text
edit_lines_tell_one n line x y p q =
    let number : x.line ≡ y.line = p.0 ∙ sym q.0 in
    let change : x.change ≡ y.change = tells_one line x.change y.change p.1 q.1 in
    λ i. record { line = number i; change = change i }

pub edit_lines_have_form : EncodesOnlyWellFormed edits_text
edit_lines_have_form n line x told = told_form line x.change told.1

-- A file has either a parse result or a first error.
pub edits_settled : IsSettled (by_lines edits_text)
edits_settled = list_settled edits_text edit_lines_tell_one edit_lines_have_form

-- 3. A rejected line is bad, regardless of the lines before it.

not_told : (line : List ℕ) (why : ListWhy) → change_of line ≡ Err why → (c : Change) → EncodesChange line c → ⊥
not_told line why refused c told = let read : change_of line ≡ Ok c = told_change line c told in cc

pub refused_is_bad : (n : ℕ) (before : List Edit) (line : List ℕ) (why : ListWhy) → change_of line ≡ Err why → IsBad edits_text n before line why
refused_is_bad n before line why refused = elim (explained line why refused) [
  | inl form ↦ subst (IsBad edits_text n before line) (sym form) (bad_line (no_form line (refused ∙ ap (λ w. Err w) form)))
  | inr value ↦ subst (IsBad edits_text n before line) (sym value.0) (bad_value value.1 (λ edit told. not_told line why refused edit.change told.1))
]
