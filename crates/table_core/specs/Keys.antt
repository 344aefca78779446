-- The keys of a table as data: the name of each key, whether it is required, and the kind of its value.
use Rattle.std.specs.Prelude.{ℕ, Bool, true, false, not, ◌&&◌, ◌||◌, List, map, is_some}
use Rattle.std.specs.List.{list_all, list_any}
use Rattle.std.specs.Option.{option_map_or}
use Rattle.std.specs.Str.{bytes_eq}
use Rattle.toml.specs.Data.{Data, Members, as_str}
use Rattle.table_core.specs.Tables.{boolean_at, has_key, has_only, integer_at, list_at, number_at, text_at}

-- The kind of a value: a string, one of some words, an integer, an integer from 0 to `most`, a boolean, an array, or an array of strings.
pub data Kind : Type 0 where
  Text : Kind
  OneOf : (words : List (List ℕ)) → Kind
  Integer : Kind
  Number : (most : ℕ) → Kind
  Boolean : Kind
  Array : Kind
  Texts : Kind

-- A key: its name, whether it is required, and the kind of its value.
pub record Key : Type 0 where
  pub name : List ℕ
  pub needed : Bool
  pub kind : Kind

-- A required key.
abbrev pub needed : List ℕ → Kind → Key
needed name wanted = record { name = name; needed = true; kind = wanted }

-- An optional key.
abbrev pub optional : List ℕ → Kind → Key
optional name wanted = record { name = name; needed = false; kind = wanted }

-- The value is a string.
abbrev pub is_text : Data → Bool
is_text d = is_some (as_str d)

-- The string is one of these words.
abbrev pub is_one_of : List (List ℕ) → List ℕ → Bool
is_one_of words word = list_any (bytes_eq word) words

-- The value of the key is of this kind.
abbrev pub stands_at : Kind → List ℕ → Members → Bool
stands_at Text key ms = is_some (text_at key ms)
stands_at (OneOf words) key ms = option_map_or (is_one_of words) (text_at key ms) false
stands_at Integer key ms = is_some (integer_at key ms)
stands_at (Number most) key ms = is_some (number_at most key ms)
stands_at Boolean key ms = is_some (boolean_at key ms)
stands_at Array key ms = is_some (list_at key ms)
stands_at Texts key ms = option_map_or (list_all is_text) (list_at key ms) false

-- The value of the key is of its kind, or the key is absent.
abbrev pub suits_in : Members → Key → Bool
suits_in ms key = not (has_key key.name ms) || stands_at key.kind key.name ms

-- The table has only these keys.
unfoldable pub has_only_keys : List Key → Members → Bool
has_only_keys keys ms = has_only (map (λ key. key.name) keys) ms

-- The table lacks a required key.
unfoldable pub lacks_key : List Key → Members → Bool
lacks_key keys ms = list_any (λ key. key.needed && not (has_key key.name ms)) keys

-- The value of each key that is present is of its kind.
unfoldable pub all_suit : List Key → Members → Bool
all_suit keys ms = list_all (suits_in ms) keys
