-- Parsing a line of an edit file, step by step. Callers do not see this; they use the grammar and the reasons.
use Rattle.std.specs.Prelude.{ℕ, ◌==◌, ◌++◌, if◌then◌else◌, List, [], ◌∷◌, Option, Some, None, Result, Err, codes, is_some, bytes_eq}
use Rattle.std.specs.List.{list_all}
use Rattle.std.specs.Option.{option_map, ok_or}
use Rattle.std.specs.Str.{is_utf8}
use Rattle.text_core.specs.inner.Decimal.{number}
use Rattle.text_core.specs.Lines.{words}
use Rattle.text_core.specs.Steps.{◌>>=◌}
use Rattle.text_core.specs.declared.faults.ListWhy.{ListWhy}
use Rattle.text_core.specs.declared.faults.ListWhy.TheVariants.{BadLine, BadValue}
use Rattle.host_net.specs.Limits.{invariant_limit}
use Rattle.table_core.specs.Tables.{text_at}
use Rattle.toml.specs.Data.{Members, as_table, get_member}
use Rattle.toml.specs.Parse.{parse_document}
use Rattle.edit_core.specs.Behind.{after_first_word}
use Rattle.edit_core.specs.Edit.{Change, Add, Remove, Set, Unset}

-- Tokens that are valid UTF-8.
abbrev pub texts_of : List (List ℕ) → Option (List (List ℕ))
texts_of ws = if list_all is_utf8 ws then Some ws else None

abbrev pub text_of : List ℕ → Option (List ℕ)
text_of w = if is_utf8 w then Some w else None

-- The number of an invariant: a decimal number from 1 to the invariant limit.
abbrev pub from_one : ℕ → Option ℕ
from_one n = if n == 0 then None else Some n

abbrev pub invariant_said : List ℕ → Option ℕ
invariant_said word = number invariant_limit word >>= from_one

-- The table of an assign, if it has a string at `host`.
abbrev pub with_host : Members → Option Members
with_host assign = if is_some (text_at (codes "host") assign) then Some assign else None

abbrev pub value_in : Members → Option Members
value_in document = get_member (codes "v") document >>= as_table

unfoldable pub assign_of : List ℕ → Option Members
assign_of text = if is_utf8 text then (parse_document (codes "v = " ++ text) >>= value_in) >>= with_host else None

-- The change of each verb, from the tokens after the verb and the string after the number.
abbrev pub add_of : List (List ℕ) → Result Change ListWhy
add_of (from ∷ to ∷ services) = ok_or (option_map Add (texts_of (from ∷ to ∷ services))) BadValue
add_of _ = Err BadLine

abbrev pub removed : List ℕ → List ℕ → Option Change
removed from to = text_of from >>= λ f. option_map (Remove f) (text_of to)

abbrev pub remove_of : List (List ℕ) → Result Change ListWhy
remove_of (from ∷ to ∷ []) = ok_or (removed from to) BadValue
remove_of _ = Err BadLine

abbrev pub assigned : List ℕ → List ℕ → Option Change
assigned number text = invariant_said number >>= λ k. option_map (Set k) (assign_of text)

abbrev pub set_of : List ℕ → List (List ℕ) → Result Change ListWhy
set_of text (number ∷ word ∷ rest) = ok_or (assigned number text) BadValue
set_of text _ = Err BadLine

abbrev pub unassigned : List ℕ → List ℕ → Option Change
unassigned number host = invariant_said number >>= λ k. option_map (Unset k) (text_of host)

abbrev pub unset_of : List (List ℕ) → Result Change ListWhy
unset_of (number ∷ host ∷ []) = ok_or (unassigned number host) BadValue
unset_of _ = Err BadLine

-- The change, selected by the verb.
abbrev pub change_by : List ℕ → List (List ℕ) → List ℕ → Result Change ListWhy
change_by verb rest text =
    if bytes_eq verb (codes "add") then add_of rest
    else if bytes_eq verb (codes "remove") then remove_of rest
    else if bytes_eq verb (codes "set") then set_of text rest
    else if bytes_eq verb (codes "unset") then unset_of rest
    else Err BadLine

abbrev pub change_of_words : List (List ℕ) → List ℕ → Result Change ListWhy
change_of_words [] text = Err BadLine
change_of_words (verb ∷ rest) text = change_by verb rest text

unfoldable pub change_of : List ℕ → Result Change ListWhy
change_of line = change_of_words (words line) (after_first_word (after_first_word line))
