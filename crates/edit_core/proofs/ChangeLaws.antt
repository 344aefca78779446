-- Lemmas on the lines of edit files: a line is parsed as a change if and only if it encodes it.
use Rattle.std.proofs.Common.{◌≡◌, ℕ, ◌≤◌, true, false, List, [], ◌∷◌, Option, Some, None, length, inl, inr, refl, ap, ◌∙◌, subst, arith}
use Rattle.std.specs.Prelude.{codes, decimal, Ok, bytes_eq, is_some, ◌==◌, ◌++◌, IsTrue}
use Rattle.std.specs.List.{list_all}
use Rattle.std.specs.Option.{option_map, ok_or}
use Rattle.std.specs.Str.{is_utf8}
use Rattle.std.proofs.lemmas.Bool.Decides.{nat_tests}
use Rattle.text_core.specs.inner.Decimal.{number}
use Rattle.text_core.proofs.DecimalLaws.{number-decimal, decimal_of_number}
use Rattle.text_core.specs.Lines.{words}
use Rattle.text_core.specs.Steps.{◌>>=◌}
use Rattle.text_core.proofs.StepsLaws.{bind_some, if_parts, ok_or_parts, map_parts, bytes_same}
use Rattle.text_core.specs.declared.faults.ListWhy.TheVariants.{BadValue}
use Rattle.host_net.specs.Limits.{invariant_limit}
use Rattle.table_core.specs.Tables.{text_at}
use Rattle.toml.specs.Data.{Data, string, integer, float, boolean, datetime, array, table, Members, as_table, get_member}
use Rattle.toml.specs.Parse.{parse_document}
use Rattle.edit_core.specs.Behind.{after_first_word}
use Rattle.edit_core.specs.inner.ChangeSteps.{add_of, assign_of, assigned, change_of, change_of_words, from_one, invariant_said, remove_of, removed, set_of, text_of, texts_of, unassigned, unset_of, value_in, with_host}
use Rattle.edit_core.specs.Edit.{Change, Add, Remove, Set, Unset}
use Rattle.edit_core.specs.EditsText.{AreTexts, IsAssignText, IsInvariantNumber, EncodesChange}

-- ---- tokens

texts_parts : (ws xs : List (List ℕ)) → texts_of ws ≡ Some xs → AreTexts ws × (ws ≡ xs)
texts_parts ws xs read = elim (if_parts (list_all is_utf8 ws) (Some ws) None (Some xs) read) [ inl all ↦ (all.0, cc) | inr none ↦ cc ]

texts_read : (ws : List (List ℕ)) → AreTexts ws → texts_of ws ≡ Some ws
texts_read ws texts = rw texts refl

text_parts : (w x : List ℕ) → text_of w ≡ Some x → (is_utf8 w ≡ true) × (w ≡ x)
text_parts w x read = elim (if_parts (is_utf8 w) (Some w) None (Some x) read) [ inl all ↦ (all.0, cc) | inr none ↦ cc ]

text_read : (w : List ℕ) → is_utf8 w ≡ true → text_of w ≡ Some w
text_read w utf8 = rw utf8 refl

from_one_parts : (n k : ℕ) → from_one n ≡ Some k → (n ≡ k) × (1 ≤ k)
from_one_parts n k read = elim (if_parts (n == 0) None (Some n) (Some k) read) [
  | inl none ↦ cc
  | inr some ↦ let same : n ≡ k = cc in let other : (n == 0) ≡ false = some.0 in (same, grind (arith, nat_tests))
]

from_one_read : (k : ℕ) → 1 ≤ k → from_one k ≡ Some k
from_one_read k some = let other : (k == 0) ≡ false = grind (arith, nat_tests) in rw other refl

number_parts : (word : List ℕ) (k : ℕ) → invariant_said word ≡ Some k → (word ≡ decimal k) × IsInvariantNumber k
number_parts word k read =
    let (n, said, more) = bind_some (number invariant_limit word) from_one k read in
    let (same, some) = from_one_parts n k more in
    let (text, small) = decimal_of_number invariant_limit word n (omega arith) said in
    (text ∙ ap decimal same, (some, subst (λ (m : ℕ). m ≤ invariant_limit) same small))

number_read : (k : ℕ) → IsInvariantNumber k → invariant_said (decimal k) ≡ Some k
number_read k (some, small) = ap (λ (o : Option ℕ). o >>= from_one) (number-decimal invariant_limit k small (omega arith)) ∙ from_one_read k some

-- ---- the string of an assign

table_parts : (d : Data) (ms : Members) → as_table d ≡ Some ms → d ≡ table ms
table_parts (string s) ms is = cc
table_parts (integer z) ms is = cc
table_parts (float x) ms is = cc
table_parts (boolean b) ms is = cc
table_parts (datetime dt) ms is = cc
table_parts (array ds) ms is = cc
table_parts (table ns) ms is = let same : ns ≡ ms = cc in ap table same

assign_told : (text : List ℕ) (assign : Members) → assign_of text ≡ Some assign → IsAssignText text assign
unfolding assign_of
assign_told text assign read = elim (if_parts (is_utf8 text) _ None (Some assign) read) [
  | inl utf8 ↦
      let (found, at, with) = bind_some (parse_document (codes "v = " ++ text) >>= value_in) with_host assign utf8.1 in
      let (document, is_read, value) = bind_some (parse_document (codes "v = " ++ text)) value_in found at in
      let (d, member, is_table) = bind_some (get_member (codes "v") document) as_table found value in
      elim (if_parts (is_some (text_at (codes "host") found)) (Some found) None (Some assign) with) [
        | inl named ↦
            let same : found ≡ assign = cc in
            record {
              utf8 = utf8.0;
              document = document;
              read = is_read;
              value = member ∙ ap (λ (x : Data). Some x) (table_parts d found is_table ∙ ap table same);
              host = subst (λ (ms : Members). IsTrue (is_some (text_at (codes "host") ms))) same named.0;
            }
        | inr none ↦ cc
      ]
  | inr none ↦ cc
]

assign_read : (text : List ℕ) (assign : Members) → IsAssignText text assign → assign_of text ≡ Some assign
unfolding assign_of
assign_read text assign told =
    let value : value_in told.document ≡ Some assign = ap (λ (o : Option Data). o >>= as_table) told.value in
    let with : with_host assign ≡ Some assign = rw told.host refl in
    rw (told.utf8, told.read) (ap (λ (o : Option Members). o >>= with_host) value ∙ with)

-- ---- a parsed change is encoded

add_told : (line : List ℕ) (rest : List (List ℕ)) (c : Change) → words line ≡ codes "add" ∷ rest → add_of rest ≡ Ok c → EncodesChange line c
add_told line [] c is read = cc
add_told line (a ∷ []) c is read = cc
add_told line (a ∷ b ∷ ws) c is read =
    let (xs, texts, same) = map_parts Add (texts_of (a ∷ b ∷ ws)) c (ok_or_parts (option_map Add (texts_of (a ∷ b ∷ ws))) BadValue c read) in
    let (utf8, whole) = texts_parts (a ∷ b ∷ ws) xs texts in
    let told : EncodesChange line (Add (a ∷ b ∷ ws)) = (is, omega arith, utf8) in
    subst (EncodesChange line) (ap Add whole ∙ same) told

remove_told : (line : List ℕ) (rest : List (List ℕ)) (c : Change) → words line ≡ codes "remove" ∷ rest → remove_of rest ≡ Ok c → EncodesChange line c
remove_told line [] c is read = cc
remove_told line (a ∷ []) c is read = cc
remove_told line (a ∷ b ∷ x ∷ ws) c is read = cc
remove_told line (a ∷ b ∷ []) c is read =
    let (f, from, rest) = bind_some (text_of a) (λ f. option_map (Remove f) (text_of b)) c (ok_or_parts (removed a b) BadValue c read) in
    let (t, to, same) = map_parts (Remove f) (text_of b) c rest in
    let (a_text, a_same) = text_parts a f from in
    let (b_text, b_same) = text_parts b t to in
    let utf8 : AreTexts (a ∷ b ∷ []) = rw (a_text, b_text) refl in
    let told : EncodesChange line (Remove a b) = (is, utf8) in
    subst (EncodesChange line) ((λ i. Remove (a_same i) (b_same i)) ∙ same) told

set_told : (line : List ℕ) (rest : List (List ℕ)) (c : Change) → words line ≡ codes "set" ∷ rest → set_of (after_first_word (after_first_word line)) rest ≡ Ok c
    → EncodesChange line c
set_told line [] c is read = cc
set_told line (a ∷ []) c is read = cc
set_told line (a ∷ w ∷ ws) c is read =
    let text = after_first_word (after_first_word line) in
    let (k, said, rest) = bind_some (invariant_said a) (λ k. option_map (Set k) (assign_of text)) c (ok_or_parts (assigned a text) BadValue c read) in
    let (assign, one, same) = map_parts (Set k) (assign_of text) c rest in
    let (number_text, small) = number_parts a k said in
    let told : EncodesChange line (Set k assign) = record {
      word = w;
      rest = ws;
      written = is ∙ ap (λ (n : List ℕ). codes "set" ∷ n ∷ w ∷ ws) number_text;
      number = small;
      text = assign_told text assign one;
    } in
    subst (EncodesChange line) same told

unset_told : (line : List ℕ) (rest : List (List ℕ)) (c : Change) → words line ≡ codes "unset" ∷ rest → unset_of rest ≡ Ok c → EncodesChange line c
unset_told line [] c is read = cc
unset_told line (a ∷ []) c is read = cc
unset_told line (a ∷ b ∷ x ∷ ws) c is read = cc
unset_told line (a ∷ b ∷ []) c is read =
    let (k, said, rest) = bind_some (invariant_said a) (λ k. option_map (Unset k) (text_of b)) c (ok_or_parts (unassigned a b) BadValue c read) in
    let (h, host, same) = map_parts (Unset k) (text_of b) c rest in
    let (number_text, small) = number_parts a k said in
    let (b_text, b_same) = text_parts b h host in
    let utf8 : AreTexts (b ∷ []) = rw b_text refl in
    let told : EncodesChange line (Unset k b) = (is ∙ ap (λ (n : List ℕ). codes "unset" ∷ n ∷ b ∷ []) number_text, small, utf8) in
    subst (EncodesChange line) (ap (Unset k) b_same ∙ same) told

verb_is : (line verb name : List ℕ) (rest : List (List ℕ)) → words line ≡ verb ∷ rest → bytes_eq verb name ≡ true → words line ≡ name ∷ rest
verb_is line verb name rest is same = is ∙ ap (λ v. v ∷ rest) (bytes_same verb name same)

by_words : (line : List ℕ) (ws : List (List ℕ)) (c : Change) → words line ≡ ws → change_of_words ws (after_first_word (after_first_word line)) ≡ Ok c
    → EncodesChange line c
by_words line [] c is read = cc
by_words line (verb ∷ rest) c is read = elim (if_parts (bytes_eq verb (codes "add")) (add_of rest) _ (Ok c) read) [
  | inl add ↦ add_told line rest c (verb_is line verb (codes "add") rest is add.0) add.1
  | inr a ↦ elim (if_parts (bytes_eq verb (codes "remove")) (remove_of rest) _ (Ok c) a.1) [
    | inl remove ↦ remove_told line rest c (verb_is line verb (codes "remove") rest is remove.0) remove.1
    | inr r ↦ elim (if_parts (bytes_eq verb (codes "set")) (set_of (after_first_word (after_first_word line)) rest) _ (Ok c) r.1) [
      | inl set ↦ set_told line rest c (verb_is line verb (codes "set") rest is set.0) set.1
      | inr s ↦ elim (if_parts (bytes_eq verb (codes "unset")) (unset_of rest) _ (Ok c) s.1) [
        | inl unset ↦ unset_told line rest c (verb_is line verb (codes "unset") rest is unset.0) unset.1
        | inr bad ↦ cc
      ]
    ]
  ]
]

pub change_told : (line : List ℕ) (c : Change) → change_of line ≡ Ok c → EncodesChange line c
unfolding change_of
change_told line c read = by_words line (words line) c refl read

-- ---- an encoded change is parsed

add_read : (ws : List (List ℕ)) → 2 ≤ length ws → AreTexts ws → add_of ws ≡ Ok (Add ws)
add_read [] some texts = absurd (omega arith)
add_read (a ∷ []) some texts = absurd (omega arith)
add_read (a ∷ b ∷ ws) some texts = ap (λ (o : Option (List (List ℕ))). ok_or (option_map Add o) BadValue) (texts_read (a ∷ b ∷ ws) texts)

both_texts : (a b : List ℕ) → AreTexts (a ∷ b ∷ []) → (is_utf8 a ≡ true) × (is_utf8 b ≡ true)
both_texts a b texts = grind (arith, nat_tests)

one_text : (a : List ℕ) → AreTexts (a ∷ []) → is_utf8 a ≡ true
one_text a texts = grind (arith, nat_tests)

remove_read : (a b : List ℕ) → AreTexts (a ∷ b ∷ []) → remove_of (a ∷ b ∷ []) ≡ Ok (Remove a b)
remove_read a b texts =
    let (first, second) = both_texts a b texts in
    ap (λ (o : Option Change). ok_or o BadValue) (ap (λ (o : Option (List ℕ)). o >>= λ f. option_map (Remove f) (text_of b)) (text_read a first) ∙ ap (option_map (Remove a)) (text_read b second))

set_read : (k : ℕ) (word text : List ℕ) (rest : List (List ℕ)) (assign : Members) → IsInvariantNumber k → IsAssignText text assign
    → set_of text (decimal k ∷ word ∷ rest) ≡ Ok (Set k assign)
set_read k word text rest assign small told =
    ap (λ (o : Option Change). ok_or o BadValue) (ap (λ (o : Option ℕ). o >>= λ k. option_map (Set k) (assign_of text)) (number_read k small) ∙ ap (option_map (Set k)) (assign_read text assign told))

unset_read : (k : ℕ) (host : List ℕ) → IsInvariantNumber k → AreTexts (host ∷ []) → unset_of (decimal k ∷ host ∷ []) ≡ Ok (Unset k host)
unset_read k host small texts =
    ap (λ (o : Option Change). ok_or o BadValue) (ap (λ (o : Option ℕ). o >>= λ k. option_map (Unset k) (text_of host)) (number_read k small) ∙ ap (option_map (Unset k)) (text_read host (one_text host texts)))

pub told_change : (line : List ℕ) (c : Change) → EncodesChange line c → change_of line ≡ Ok c
unfolding change_of
told_change line (Add ws) told = ap (λ xs. change_of_words xs (after_first_word (after_first_word line))) told.0 ∙ add_read ws told.1 told.2
told_change line (Remove from to) told = ap (λ xs. change_of_words xs (after_first_word (after_first_word line))) told.0 ∙ remove_read from to told.1
told_change line (Set k assign) told =
    ap (λ xs. change_of_words xs (after_first_word (after_first_word line))) told.written ∙ set_read k told.word (after_first_word (after_first_word line)) told.rest assign told.number told.text
told_change line (Unset k host) told =
    ap (λ xs. change_of_words xs (after_first_word (after_first_word line))) told.0 ∙ unset_read k host told.1 told.2
