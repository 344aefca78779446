-- A table whose value at a key is changed in place.
use Rattle.std.proofs.Common.{◌≡◌, ℕ, Bool, true, false, cond, MutBor, Vec, List, [], ◌∷◌, map, filter, Option, Some, None, option_map, String, Global, string_bytes, codes, Ordering, Less, Equal, Greater, nat_cmp, refl, sym, ap, ◌∙◌}
use Rattle.std.proofs.lemmas.Cmp.{nat_list_cmp_total}
use Rattle.std.proofs.lemmas.Map.Steps.{set_value_same}
use Rattle.std.specs.BTreeMap.{BTreeMap, get_by, is_at}
use Rattle.std.specs.Cmp.Lexicographic.{slice_cmp}
use Rattle.std.specs.List.{AllByRecursion}
use Rattle.std.specs.List.Sorted.{IsStrictlySortedBy}
use Rattle.std.specs.Map.{keys_of, lookup, set_value}
use Rattle.std.specs.Option.{option_copied_mut}
use Rattle.std.specs.Ordering.{match_ordering}
use Rattle.std.specs.Prelude.{option_and_then}
use Rattle.std.specs.String.{string_cmp}
use Rattle.desc_core.specs.Migrated.{with_member}
use Rattle.edit_core.specs.inner.InPlace.{IsListAfter, IsTableAfter, flows_after}
use Rattle.edit_core.specs.Edit.{Change}
use Rattle.edit_core.proofs.FlowTables.{listed_again}
use Rattle.table_core.specs.Tables.{elements_of, list_at}
use Rattle.toml.proofs.Views.{view-Array, view-lookup}
use Rattle.toml.specs.Data.{Data, array, member}
use Rattle.toml.specs.View.{items_of, members_view, table_view, view}
use Rattle.toml.specs.declared.value.Value.{Value, Array}

abbrev Entry : Type 0
Entry = String Global × Value

-- Whether a key has these bytes.
abbrev pub at : List ℕ → String Global → Ordering
at key k = slice_cmp nat_cmp key (string_bytes k)

-- A key before the first key is not among the others.
none_behind : (key : List ℕ) (e : Entry) (es : List Entry) → at key e.0 ≡ Less → AllByRecursion (λ k. string_cmp e.0 k ≡ Less) (keys_of es)
    → lookup (is_at (at key)) es ≡ None
none_behind key e [] before sorted = refl
none_behind key e (f ∷ es) before sorted =
    let here : at key f.0 ≡ Less = nat_list_cmp_total.trans key (string_bytes e.0) (string_bytes f.0) before sorted.0 in
    rw here (none_behind key e es before sorted.1)

written_by : (o : Ordering) (key : List ℕ) (e : Entry) (es : List Entry) (v w : Value) → at key e.0 ≡ o
    → (o ≡ Less → lookup (is_at (at key)) es ≡ None) → lookup (is_at (at key)) (e ∷ es) ≡ Some v
    → (lookup (is_at (at key)) es ≡ Some v → members_view (set_value (is_at (at key)) es w) ≡ with_member key (view w) (members_view es))
    → members_view (set_value (is_at (at key)) (e ∷ es) w)
    ≡ match_ordering o (member key (view w) (member (string_bytes e.0) (view e.1) (members_view es)))
    (member (string_bytes e.0) (view w) (members_view es))
    (member (string_bytes e.0) (view e.1) (with_member key (view w) (members_view es)))
written_by Less key e es v w order behind found later =
    let none = behind refl in
    let there : lookup (is_at (at key)) es ≡ Some v = rw order at found in
    cc (none, there)
written_by Equal key e es v w order behind found later = rw order refl
written_by Greater key e es v w order behind found later =
    let there : lookup (is_at (at key)) es ≡ Some v = rw order at found in
    rw order (ap (member (string_bytes e.0) (view e.1)) (later there))

-- The value at an existing key.
written : (key : List ℕ) (es : List Entry) (v w : Value) → IsStrictlySortedBy string_cmp (keys_of es) → lookup (is_at (at key)) es ≡ Some v
    → members_view (set_value (is_at (at key)) es w) ≡ with_member key (view w) (members_view es)
unfolding IsStrictlySortedBy
written key [] v w sorted found = cc
written key (e ∷ es) v w sorted found =
    written_by (at key e.0) key e es v w refl (λ before. none_behind key e es before sorted.0) found (written key es v w sorted.1)

listed_there : (key : List ℕ) (es : List Entry) (v : Value) → lookup (is_at (at key)) es ≡ Some v → list_at key (members_view es) ≡ elements_of (view v)
unfolding list_at
listed_there key es v found = ap (option_and_then elements_of) (sym (view-lookup key es) ∙ ap (option_map view) found)

-- The table after an edit.
pub edited_in : (key : List ℕ) (table new : BTreeMap (String Global) Value) (v w : Value) (change : Change) → key ≡ codes "flow"
    → IsStrictlySortedBy string_cmp (keys_of table.entries) → lookup (is_at (at key)) table.entries ≡ Some v
    → new.entries ≡ set_value (is_at (at key)) table.entries w → IsListAfter change (view v) (view w) → IsTableAfter change (table_view table) (table_view new)
edited_in key table new v w change is sorted found written_as after = (
  after.0,
  ap (λ (k : List ℕ). list_at k (table_view table)) (sym is) ∙ listed_there key table.entries v found ∙ after.1,
  ap members_view written_as ∙ written key table.entries v w sorted found ∙ (λ i. with_member (is i) (after.2 i) (table_view table)),
)

-- A value that is written back unchanged.
pub written_same : (key : List ℕ) (table new : BTreeMap (String Global) Value) (v w : Value) → lookup (is_at (at key)) table.entries ≡ Some v
    → new.entries ≡ set_value (is_at (at key)) table.entries w → w ≡ v → new.entries ≡ table.entries
written_same key table new v w found written_as same =
    written_as ∙ ap (set_value (is_at (at key)) table.entries) same ∙ set_value_same (is_at (at key)) table.entries v found

-- The value at a key that is found.
pub found_here : (key : List ℕ) (table : BTreeMap (String Global) Value) (r : Option (MutBor Value)) (slot : MutBor Value) → r ≡ Some slot
    → option_copied_mut r ≡ get_by (at key) table → lookup (is_at (at key)) table.entries ≡ Some slot.now
found_here key table r slot is value = sym (rw is at value)

-- ---- lists

listed_in : (v : Vec Value Global) → elements_of (view (Array v)) ≡ Some (map view v.items)
listed_in v = ap elements_of (view-Array v) ∙ listed_again (map view v.items)

-- A list after an edit.
pub array_after : (change : Change) (list : Value) (old new : Vec Value Global) → list ≡ Array old
    → map view new.items ≡ flows_after change (map view old.items) → IsListAfter change (view list) (view (Array new))
array_after change list old new is after = (
  map view old.items,
  ap (λ (v : Value). elements_of (view v)) is ∙ listed_in old,
  view-Array new ∙ ap (λ (ds : List Data). array (items_of ds)) after,
)

by_test : (b : Bool) (v : Value) (vs : List Value) (ds : List Data) → map view vs ≡ ds → map view (cond b (v ∷ vs) vs) ≡ cond b (view v ∷ ds) ds
by_test true v vs ds same = ap (λ (xs : List Data). view v ∷ xs) same
by_test false v vs ds same = same

-- A filter by the models of the values.
pub filter_view : (p : Data → Bool) (vs : List Value) → map view (filter (λ v. p (view v)) vs) ≡ filter p (map view vs)
filter_view p [] = refl
filter_view p (v ∷ vs) = by_test (p (view v)) v (filter (λ x. p (view x)) vs) (filter p (map view vs)) (filter_view p vs)
