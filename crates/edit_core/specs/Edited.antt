-- The effect of an edit on the table of a description (docs/TEXTS.md). `add` and `remove` change the list of flows, `set` and `unset` the
-- assigns of one invariant; everything else is unchanged.
use Rattle.std.specs.Prelude.{ℕ, ◌-◌, Bool, false, not, ◌&&◌, if◌then◌else◌, List, [], ◌∷◌, ◌++◌, map, filter, option_and_then, Result, Ok, Err, codes, slice_get}
use Rattle.std.specs.List.{list_any, slice_set}
use Rattle.std.specs.Option.{ok_or, option_map_or}
use Rattle.std.specs.Result.{result_map_both}
use Rattle.std.specs.Str.{bytes_eq}
use Rattle.desc_core.specs.Description.{described_by_table}
use Rattle.desc_core.specs.Migrated.{with_member}
use Rattle.desc_form.specs.Places.{assigns_of, listed}
use Rattle.desc_form.specs.RawDescription.{text_in}
use Rattle.edit_core.specs.declared.fault.EditWhy.{EditWhy}
use Rattle.edit_core.specs.declared.fault.EditWhy.TheVariants.{NoPolicy, Absent, Refused}
use Rattle.edit_core.specs.Edit.{Change, Add, Remove, Set, Unset}
use Rattle.table_core.specs.Tables.{elements_of, list_at, text_at}
use Rattle.toml.specs.Data.{Data, string, array, table, Members, as_str, as_table}
use Rattle.toml.specs.View.{items_of}

infixl 10 ◌>>=◌
-- The monadic bind: the second step applied to the result of the first. The first refusal ends the sequence.
abbrev pub ◌>>=◌ : {A B W : Type 0} → Result A W → (A → Result B W) → Result B W
(Ok x) >>= f = f x
(Err why) >>= f = Err why

-- The table with these elements as the array at a key.
abbrev pub with_list : List ℕ → List Data → Members → Members
with_list key ds document = with_member key (array (items_of ds)) document

-- The elements that fail a test. At least one element has to satisfy it.
abbrev pub others : (Data → Bool) → List Data → Result (List Data) EditWhy
others test ds = if list_any test ds then Ok (filter (λ d. not (test d)) ds) else Err Absent

-- ---- flows

-- An array of strings.
abbrev pub text_list : List (List ℕ) → Data
text_list ws = array (items_of (map string ws))

-- The value is this string.
abbrev pub is_text : List ℕ → Data → Bool
is_text text d = option_map_or (bytes_eq text) (as_str d) false

-- The first two values are these strings.
abbrev pub begins_with : List ℕ → List ℕ → List Data → Bool
begins_with from to (a ∷ b ∷ ds) = is_text from a && is_text to b
begins_with from to _ = false

-- An element of `flow` whose first two strings are the names of these hosts.
abbrev pub is_between : (from to : List ℕ) → Data → Bool
is_between from to d = option_map_or (begins_with from to) (elements_of d) false

-- The table with its list of flows changed.
abbrev pub flows_edited : Members → (List Data → Result (List Data) EditWhy) → Result Members EditWhy
flows_edited document change = ok_or (list_at (codes "flow") document) NoPolicy >>= change >>= λ flows. Ok (with_list (codes "flow") flows document)

-- ---- assigns

-- The assign is for the host.
abbrev pub is_of_host : List ℕ → Data → Bool
is_of_host host d = option_map_or (bytes_eq host) (option_and_then (text_at (codes "host")) (as_table d)) false

-- The assigns with `assign` in place of the existing assign of its host, or at the end if there is none.
abbrev pub assigned : (host : List ℕ) → Members → List Data → List Data
assigned host assign ds =
    if list_any (is_of_host host) ds then map (λ d. if is_of_host host d then table assign else d) ds else ds ++ table assign ∷ []

-- An invariant with these assigns.
abbrev pub invariant_with : List Data → Data → Data
invariant_with ds d = option_map_or (λ ms. table (with_list (codes "assign") ds ms)) (as_table d) d

-- The table with the assigns of an invariant changed; the invariant is given by its number from 1.
abbrev pub assigns_edited : ℕ → Members → (List Data → Result (List Data) EditWhy) → Result Members EditWhy
assigns_edited k document change = do
  invariant ← ok_or (slice_get (listed (codes "invariant") document) (k - 1)) Absent
  assigns ← change (assigns_of invariant)
  Ok (with_list (codes "invariant") (slice_set (listed (codes "invariant") document) (k - 1) (invariant_with assigns invariant)) document)

-- ---- edits

-- The edited table, which need not be a description. The edit is refused if no flows are listed, if there is no such invariant, or if there
-- is nothing to remove.
unfoldable pub edited : Change → Members → Result Members EditWhy
edited (Add words) document = flows_edited document (λ flows. Ok (flows ++ text_list words ∷ []))
edited (Remove from to) document = flows_edited document (others (is_between from to))
edited (Set k assign) document = assigns_edited k document (λ assigns. Ok (assigned (text_in (codes "host") assign) assign assigns))
edited (Unset k host) document = assigns_edited k document (others (is_of_host host))

-- A table that is a description. A table that is not is refused for the first condition that applies.
abbrev pub if_described : Members → Result Members EditWhy
if_described document = result_map_both (λ d. document) (λ refusal. Refused refusal.why) (described_by_table document)

-- The table after an edit, or the reason why the edit is refused.
unfoldable pub after_edit : Change → Members → Result Members EditWhy
after_edit change document = edited change document >>= if_described
