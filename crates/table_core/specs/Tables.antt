-- The content of a TOML table: its keys, and the value of a key, by its type. Tables, arrays and values are those of the crate `toml` (its
-- module Data).
use Rattle.std.specs.Prelude.{ℕ, ℤ, pos, negsuc, Bool, List, [], ◌∷◌, Option, Some, None, option_and_then, option_map, is_some, nat_le, if◌then◌else◌}
use Rattle.std.specs.List.{list_all, list_any}
use Rattle.std.specs.Str.{bytes_eq}
use Rattle.toml.specs.Data.{Data, as_str, as_integer, as_bool, as_array, Items, no_items, item, Members, no_members, member, get_member}

-- The elements of an array.
abbrev pub elements : Items → List Data
elements no_items = []
elements (item d ds) = d ∷ elements ds

-- The keys of a table.
abbrev pub keys_in : Members → List (List ℕ)
keys_in no_members = []
keys_in (member k d ms) = k ∷ keys_in ms

-- Each key of the table satisfies a test.
abbrev pub all_keys : (List ℕ → Bool) → Members → Bool
all_keys test table = list_all test (keys_in table)

-- The table has only these keys.
unfoldable pub has_only : List (List ℕ) → Members → Bool
has_only keys table = all_keys (λ k. list_any (bytes_eq k) keys) table

-- The table has the key.
unfoldable pub has_key : List ℕ → Members → Bool
has_key key table = is_some (get_member key table)

-- The string at a key, if its value is a string.
unfoldable pub text_at : List ℕ → Members → Option (List ℕ)
text_at key table = option_and_then as_str (get_member key table)

-- The integer at a key.
unfoldable pub integer_at : List ℕ → Members → Option ℤ
integer_at key table = option_and_then as_integer (get_member key table)

-- The boolean at a key.
unfoldable pub boolean_at : List ℕ → Members → Option Bool
boolean_at key table = option_and_then as_bool (get_member key table)

-- An integer, if it is from 0 to `most`.
abbrev pub number_of : ℕ → ℤ → Option ℕ
number_of most (pos n) = if nat_le n most then Some n else None
number_of most (negsuc n) = None

-- The integer from 0 to `most` at a key.
unfoldable pub number_at : ℕ → List ℕ → Members → Option ℕ
number_at most key table = option_and_then (number_of most) (integer_at key table)

-- The elements of a value, if it is an array.
unfoldable pub elements_of : Data → Option (List Data)
elements_of d = option_map elements (as_array d)

-- The elements of the array at a key.
unfoldable pub list_at : List ℕ → Members → Option (List Data)
list_at key table = option_and_then elements_of (get_member key table)

-- The elements of the array at a key; the empty list if the key is absent. A key that is present still needs an array.
unfoldable pub list_or_empty : List ℕ → Members → Option (List Data)
list_or_empty key table = if has_key key table then list_at key table else Some []
