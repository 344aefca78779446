-- The printed form of a table without dates, times and floats is unique.
use Rattle.std.proofs.Common.{◌≡◌, ℕ, Bool, true, false, List, [], ◌∷◌, ◌++◌, codes, refl, ap, sym, ◌∙◌}
use Rattle.std.proofs.lemmas.Bool.{and_from, and_parts}
use Rattle.std.proofs.lemmas.List.Folds.{list_all-append}
use Rattle.std.specs.List.{list_all}
use Rattle.std.specs.Prelude.{if◌then◌else◌}
use Rattle.toml.specs.Data.{Data, string, integer, float, boolean, datetime, array, table, Items, no_items, item, Members, no_members, member}
use Rattle.toml.specs.Tables.{Definition, key_value, std_table, array_table, Expression}
use Rattle.toml.specs.Text.{IsValueText, IsItemsText, IsMembersText, IsLineText, IsLinesText, IsDocumentText, are_tables, breaks_lines, elements, expressions, header_of, is_section, needs_header, pairs, section, sections}
use Rattle.table_core.specs.Shallow.{is_plain, items_are_plain, members_are_plain}

-- The path of a key, and the key.
abbrev Key : Type 0
Key = List (List ℕ) × List ℕ

-- ---- values

mutual
  value_once : (d : Data) (a b : List ℕ) → is_plain d ≡ true → IsValueText false d a → IsValueText false d b → a ≡ b
  value_once (string s) a b plain p q = p ∙ sym q
  value_once (integer z) a b plain p q = p.0 ∙ sym q.0
  value_once (float x) a b plain p q = cc plain
  value_once (boolean t) a b plain p q = p ∙ sym q
  value_once (datetime dt) a b plain p q = p ∙ sym q
  value_once (array ds) a b plain (rest, is, items) (other, also, others) =
      is ∙ ap (λ (r : List ℕ). codes "[" ++ r) (items_once (breaks_lines false ds) true ds rest other plain items others) ∙ sym also
  value_once (table ms) a b plain (rest, is, members) (other, also, others) =
      is ∙ ap (λ (r : List ℕ). codes "{" ++ r) (members_once true ms rest other plain members others) ∙ sym also

  items_once : (lines first : Bool) (ds : Items) (a b : List ℕ) → items_are_plain ds ≡ true → IsItemsText false lines first ds a
      → IsItemsText false lines first ds b → a ≡ b
  items_once lines first no_items a b plain p q = p ∙ sym q
  items_once lines first (item d ds) a b plain (this, rest, is, here, behind) (that, other, also, there, after) =
      let parts = and_parts (is_plain d) (items_are_plain ds) plain in
      let same = value_once d this that parts.0 here there in
      let later = items_once lines false ds rest other parts.1 behind after in
      cc (is, also, same, later)

  members_once : (first : Bool) (ms : Members) (a b : List ℕ) → members_are_plain ms ≡ true → IsMembersText false first ms a
      → IsMembersText false first ms b → a ≡ b
  members_once first no_members a b plain p q = p ∙ sym q
  members_once first (member k d ms) a b plain (this, rest, is, here, behind, order) (that, other, also, there, after, ordered) =
      let parts = and_parts (is_plain d) (members_are_plain ms) plain in
      let same = value_once d this that parts.0 here there in
      let later = members_once false ms rest other parts.1 behind after in
      cc (is, also, same, later)

-- ---- lines

abbrev is_plain_line : Expression → Bool
is_plain_line (key, key_value d) = is_plain d
is_plain_line (key, std_table) = true
is_plain_line (key, array_table) = true

abbrev are_plain_lines : List Expression → Bool
are_plain_lines es = list_all is_plain_line es

line_once : (started : Bool) (key : Key) (said : Definition) (a b : List ℕ) → is_plain_line (key, said) ≡ true → IsLineText false started key said a
    → IsLineText false started key said b → a ≡ b
line_once started key (key_value d) a b plain (this, is, here) (that, also, there) =
    let same = value_once d this that plain here there in
    cc (is, also, same)
line_once started key std_table a b plain p q = p ∙ sym q
line_once started key array_table a b plain p q = p ∙ sym q

lines_once : (started : Bool) (es : List Expression) (a b : List ℕ) → are_plain_lines es ≡ true → IsLinesText false started es a
    → IsLinesText false started es b → a ≡ b
lines_once started [] a b plain p q = p ∙ sym q
lines_once started (e ∷ es) a b plain (this, rest, is, here, behind) (that, other, also, there, after) =
    let parts = and_parts (is_plain_line e) (are_plain_lines es) plain in
    let same = line_once started e.0 e.1 this that parts.0 here there in
    let later = lines_once true es rest other parts.1 behind after in
    cc (is, also, same, later)

-- ---- the lines of a plain table are plain

joined : (xs ys : List Expression) → are_plain_lines xs ≡ true → are_plain_lines ys ≡ true → are_plain_lines (xs ++ ys) ≡ true
joined xs ys first second = list_all-append is_plain_line xs ys ∙ and_from (are_plain_lines xs) (are_plain_lines ys) first second

one_pair : (b : Bool) (e : Expression) (es : List Expression) → is_plain_line e ≡ true → are_plain_lines es ≡ true
    → are_plain_lines (if b then es else e ∷ es) ≡ true
one_pair true e es here behind = behind
one_pair false e es here behind = and_from (is_plain_line e) (are_plain_lines es) here behind

pairs_plain : (ms : Members) → members_are_plain ms ≡ true → are_plain_lines (pairs ms) ≡ true
pairs_plain no_members plain = refl
pairs_plain (member k d ms) plain =
    let parts = and_parts (is_plain d) (members_are_plain ms) plain in
    one_pair (is_section d) (([], k), key_value d) (pairs ms) parts.0 (pairs_plain ms parts.1)

header_plain : (b : Bool) (key : Key) → are_plain_lines (if b then (key, std_table) ∷ [] else []) ≡ true
header_plain true key = refl
header_plain false key = refl

where_tables : (b : Bool) (es : List Expression) → are_plain_lines es ≡ true → are_plain_lines (if b then es else []) ≡ true
where_tables true es plain = plain
where_tables false es plain = refl

mutual
  sections_plain : (path : List (List ℕ)) (ms : Members) → members_are_plain ms ≡ true → are_plain_lines (sections path ms) ≡ true
  sections_plain path no_members plain = refl
  sections_plain path (member k d ms) plain =
      let parts = and_parts (is_plain d) (members_are_plain ms) plain in
      joined (section (path, k) d) (sections path ms) (section_plain (path, k) d parts.0) (sections_plain path ms parts.1)

  section_plain : (key : Key) (d : Data) → is_plain d ≡ true → are_plain_lines (section key d) ≡ true
  section_plain key (table ms) plain =
      joined (header_of key ms) (pairs ms ++ sections (key.0 ++ key.1 ∷ []) ms) (header_plain (needs_header ms) key)
      (joined (pairs ms) (sections (key.0 ++ key.1 ∷ []) ms) (pairs_plain ms plain) (sections_plain (key.0 ++ key.1 ∷ []) ms plain))
  section_plain key (array ds) plain = where_tables (are_tables ds) (elements key ds) (elements_plain key ds plain)
  section_plain key (string s) plain = refl
  section_plain key (integer z) plain = refl
  section_plain key (float x) plain = refl
  section_plain key (boolean b) plain = refl
  section_plain key (datetime dt) plain = refl

  elements_plain : (key : Key) (ds : Items) → items_are_plain ds ≡ true → are_plain_lines (elements key ds) ≡ true
  elements_plain key no_items plain = refl
  elements_plain key (item (table ms) ds) plain =
      let parts = and_parts (members_are_plain ms) (items_are_plain ds) plain in
      joined (pairs ms ++ sections (key.0 ++ key.1 ∷ []) ms) (elements key ds)
      (joined (pairs ms) (sections (key.0 ++ key.1 ∷ []) ms) (pairs_plain ms parts.0) (sections_plain (key.0 ++ key.1 ∷ []) ms parts.0))
      (elements_plain key ds parts.1)
  elements_plain key (item (string s) ds) plain = elements_plain key ds plain
  elements_plain key (item (integer z) ds) plain = elements_plain key ds plain
  elements_plain key (item (boolean b) ds) plain = elements_plain key ds plain
  elements_plain key (item (float x) ds) plain = cc plain
  elements_plain key (item (datetime dt) ds) plain = cc plain
  elements_plain key (item (array es) ds) plain =
      let parts = and_parts (items_are_plain es) (items_are_plain ds) plain in
      elements_plain key ds parts.1

pub printed_once : (ms : Members) (a b : List ℕ) → members_are_plain ms ≡ true → IsDocumentText false ms a → IsDocumentText false ms b → a ≡ b
printed_once ms a b plain p q =
    lines_once false (expressions ms) a b (joined (pairs ms) (sections [] ms) (pairs_plain ms plain) (sections_plain [] ms plain)) p q
