-- The format of edit files, one edit per line (docs/TEXTS.md): the edits that a file contains, and its first error.
use Rattle.std.specs.Prelude.{◌≡◌, ℕ, ◌≤◌, List, [], ◌∷◌, ◌++◌, Some, length, codes, decimal, is_some, IsTrue}
use Rattle.std.specs.List.{list_all}
use Rattle.std.specs.Str.{is_utf8}
use Rattle.text_core.specs.Lines.{words}
use Rattle.text_core.specs.ListFormat.{ListFormat, by_lines}
use Rattle.text_core.specs.LineFormat.{HasFault, IsReading}
use Rattle.text_core.specs.declared.faults.ListWhy.{ListWhy}
use Rattle.host_net.specs.Limits.{invariant_limit}
use Rattle.table_core.specs.Tables.{text_at}
use Rattle.toml.specs.Data.{Members, get_member, table}
use Rattle.toml.specs.Parse.{parse_document}
use Rattle.edit_core.specs.Behind.{after_first_word}
use Rattle.edit_core.specs.Edit.{Change, Add, Remove, Set, Unset, Edit}

-- A. The grammar: the edits that a file contains.

-- Each token is valid UTF-8.
abbrev pub AreTexts : List (List ℕ) → Type 0
AreTexts ws = IsTrue (list_all is_utf8 ws)

-- The number of an invariant: from 1 to the invariant limit.
abbrev pub IsInvariantNumber : ℕ → Type 0
IsInvariantNumber k = (1 ≤ k) × (k ≤ invariant_limit)

-- `v = ` followed by the string is a TOML document with this table at `v`, and the table has a string at `host`.
pub record IsAssignText (text : List ℕ) (assign : Members) : Type 0 where
  pub utf8 : IsTrue (is_utf8 text)
  pub document : Members
  pub read : parse_document (codes "v = " ++ text) ≡ Some document
  pub value : get_member (codes "v") document ≡ Some (table assign)
  pub host : IsTrue (is_some (text_at (codes "host") assign))

-- `set`, a number, and the string of an assign, which is the entire rest of the line after the number.
pub record EncodesAssign (line : List ℕ) (invariant : ℕ) (assign : Members) : Type 0 where
  pub word : List ℕ
  pub rest : List (List ℕ)
  pub written : words line ≡ codes "set" ∷ decimal invariant ∷ word ∷ rest
  pub number : IsInvariantNumber invariant
  pub text : IsAssignText (after_first_word (after_first_word line)) assign

-- A line encodes a change.
abbrev pub EncodesChange : List ℕ → Change → Type 0
EncodesChange line (Add ws) = (words line ≡ codes "add" ∷ ws) × (2 ≤ length ws) × AreTexts ws
EncodesChange line (Remove from to) = (words line ≡ codes "remove" ∷ from ∷ to ∷ []) × AreTexts (from ∷ to ∷ [])
EncodesChange line (Set invariant assign) = EncodesAssign line invariant assign
EncodesChange line (Unset invariant host) =
    (words line ≡ codes "unset" ∷ decimal invariant ∷ host ∷ []) × IsInvariantNumber invariant × AreTexts (host ∷ [])

-- B. The shape of a line that encodes an edit.

-- Tokens have the shape of an edit: one of the four verbs, followed by the number of tokens that it requires.
pub data IsForm (ws : List (List ℕ)) : Type 0 where
  add : (from to : List ℕ) (services : List (List ℕ)) → ws ≡ codes "add" ∷ from ∷ to ∷ services → IsForm ws
  remove : (from to : List ℕ) → ws ≡ codes "remove" ∷ from ∷ to ∷ [] → IsForm ws
  set : (number word : List ℕ) (rest : List (List ℕ)) → ws ≡ codes "set" ∷ number ∷ word ∷ rest → IsForm ws
  unset : (number host : List ℕ) → ws ≡ codes "unset" ∷ number ∷ host ∷ [] → IsForm ws

-- C. The file contains at most 10,000 edits, each with the number of its line.

-- The list format of edit files: at most 10,000 edits, and at most 1,048,576 bytes.
abbrev pub edits_text : ListFormat Edit
edits_text = record {
  byte_limit = 1048576;
  most = 10000;
  HasForm = λ line. IsForm (words line);
  Tells = λ n line edit. (edit.line ≡ n) × EncodesChange line edit.change;
}

-- The parse result of a file.
abbrev pub IsReadingOfEdits : List ℕ → List Edit → Type 0
IsReadingOfEdits bytes edits = IsReading (by_lines edits_text) bytes edits

-- The first error of a file.
abbrev pub IsRefusedInEdits : List ℕ → ℕ → ListWhy → Type 0
IsRefusedInEdits bytes line why = HasFault (by_lines edits_text) bytes line why
