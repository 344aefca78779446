-- All places of a description in order, and refusals 3 to 5: unknown keys, missing keys, and values of a wrong type (the description's
-- format, docs/FORMATS.md).
use Rattle.std.specs.Prelude.{ℕ, ℤ, Bool, true, false, not, ◌||◌, ◌==◌, List, [], ◌∷◌, ◌++◌, map, flat_map, find, length, Option, option_map, codes, unwrap_or, option_and_then, is_some}
use Rattle.std.specs.List.{list_all}
use Rattle.std.specs.Option.{option_map_or}
use Rattle.toml.specs.Data.{Data, table, Members, as_table}
use Rattle.desc_form.specs.declared.refusal.Place.{Place}
use Rattle.desc_form.specs.declared.refusal.Place.TheVariants.{Document, Host, Invariant, Assign, FlowAt, Template}
use Rattle.desc_form.specs.declared.refusal.Refusal.{Refusal}
use Rattle.desc_form.specs.declared.refusal.Why.{Why}
use Rattle.text_core.specs.FirstMatch.{Numbered, numbered}
use Rattle.desc_form.specs.RawFlow.{RawFlow, raw_flow}
use Rattle.desc_form.specs.RawTemplate.{raw_pair}
use Rattle.desc_form.specs.Keys.{keys_of, says_second, declared_version}
use Rattle.desc_form.specs.Refusals.{refused}
use Rattle.table_core.specs.Keys.{all_suit, has_only_keys, lacks_key}
use Rattle.table_core.specs.Tables.{list_at}

-- A place and its value.
pub record Location : Type 0 where
  pub place : Place
  pub value : Data

-- The elements of the array at a key; the empty list if the value is no array.
unfoldable pub listed : List ℕ → Members → List Data
listed key ms = unwrap_or (list_at key ms) []

-- The assigns of an invariant; the empty list if it has no such array.
unfoldable pub assigns_of : Data → List Data
assigns_of d = unwrap_or (option_and_then (list_at (codes "assign")) (as_table d)) []

-- The element of a list with a number, at the place with this number.
abbrev pub spot_in : (ℕ → Place) → Numbered Data → Location
spot_in place d = record { place = place d.number; value = d.what }

-- An invariant, followed by its assigns.
abbrev pub invariant_spots : Numbered Data → List Location
invariant_spots d = spot_in Invariant d ∷ map (spot_in (Assign d.number)) (numbered (assigns_of d.what))

-- The document, then the hosts, then each invariant and its assigns, then the flows, then the templates.
unfoldable pub locations : Members → List Location
locations document =
    record { place = Document; value = table document }
    ∷ (map (spot_in Host) (numbered (listed (codes "host") document))
    ++ (flat_map invariant_spots (numbered (listed (codes "invariant") document))
    ++ (map (spot_in FlowAt) (numbered (listed (codes "flow") document))
    ++ map (spot_in Template) (numbered (listed (codes "template") document)))))

-- 3: the table has a key outside those of its place, in a document of the given version. Assigns and flows are not checked, and a value
-- that is no table is skipped.
abbrev pub has_unknown_key : Option ℤ → Place → Data → Bool
has_unknown_key said (Assign k m) d = false
has_unknown_key said (FlowAt k) d = false
has_unknown_key said place d = option_map_or (λ ms. not (has_only_keys (keys_of said place) ms)) (as_table d) false

-- 4: the table lacks a required key. A value that is no table is skipped.
abbrev pub has_missing_key : Option ℤ → Place → Data → Bool
has_missing_key said place d = option_map_or (lacks_key (keys_of said place)) (as_table d) false

-- A flow is valid for the version: it has no services, or the document is of version 2.
abbrev pub fits_version : Option ℤ → RawFlow → Bool
fits_version said f = (length f.services == 0) || says_second said

-- All elements of `deny` are pairs.
abbrev pub denies_pairs : Members → Bool
denies_pairs ms = list_all (λ d. is_some (raw_pair d)) (listed (codes "deny") ms)

-- 5: a flow is not an array of two strings, or of two or more in version 2. At any other place: the value is no table, or some value in it
-- has a wrong type, or, for a template, the array `deny` has an element that is not an array of two strings.
unfoldable pub has_wrong_type : Option ℤ → Place → Data → Bool
has_wrong_type said (FlowAt k) d = not (option_map_or (fits_version said) (raw_flow d) false)
has_wrong_type said (Template k) d = option_map_or (λ ms. not (all_suit (keys_of said (Template k)) ms) || not (denies_pairs ms)) (as_table d) true
has_wrong_type said place d = option_map_or (λ ms. not (all_suit (keys_of said place) ms)) (as_table d) true

-- The refusal of the first place whose value satisfies a condition.
unfoldable pub first_place : Why → (Option ℤ → Place → Data → Bool) → Members → Option Refusal
first_place why holds document = option_map (λ s. refused why s.place) (find (λ s. holds (declared_version document) s.place s.value) (locations document))
