-- Lemmas on tables, as `toml` stores them.
use Rattle.std.proofs.Common.{◌≡◌, ℕ, Bool, ◌&&◌, List, [], ◌∷◌, map, String, Global, string_bytes, refl, ap}
use Rattle.std.specs.List.{list_all}
use Rattle.std.specs.Map.{keys_of}
use Rattle.toml.specs.View.{view, items_view, members_view}
use Rattle.toml.specs.declared.value.Value.{Value}
use Rattle.table_core.specs.Tables.{all_keys, elements}

pub elements_view : (vs : List Value) → elements (items_view vs) ≡ map view vs
elements_view [] = refl
elements_view (v ∷ vs) = ap (λ ds. view v ∷ ds) (elements_view vs)

-- A test of each key of the map.
pub all_keys_view : (test : List ℕ → Bool) (es : List (String Global × Value))
    → list_all (λ key. test (string_bytes key)) (keys_of es) ≡ all_keys test (members_view es)
all_keys_view test [] = refl
all_keys_view test (e ∷ es) = ap (λ b. test (string_bytes e.0) && b) (all_keys_view test es)
