-- Tests over a table of keys in the code are tests over the keys of its model.
use Rattle.std.proofs.Common.{Bool, ◌||◌, ◌≡◌, List, [], ◌∷◌, ℕ, map, String, Global, string_bytes, refl, ap, sym, ◌∙◌}
use Rattle.std.proofs.lemmas.List.Folds.{list_all-map}
use Rattle.std.specs.List.{list_all, list_any}
use Rattle.std.specs.Map as maps
use Rattle.std.specs.Str.{bytes_eq}
use Rattle.table_core.specs.declared.keys.Key.{Key}
use Rattle.table_core.specs.inner.KeyView.{key_view}
use Rattle.table_core.specs.Keys.{has_only_keys}
use Rattle.table_core.specs.Keys as meant
use Rattle.table_core.specs.Tables.{has_only, keys_in}
use Rattle.table_core.proofs.TablesLaws.{all_keys_view}
use Rattle.toml.specs.View.{members_view}
use Rattle.toml.specs.declared.value.Value.{Value}

list_any-map : {A B : Type 0} (test : B → Bool) (seen : A → B) (xs : List A)
    → list_any test (map seen xs) ≡ list_any (λ x. test (seen x)) xs
list_any-map test seen [] = refl
list_any-map test seen (x ∷ xs) = ap (λ b. test (seen x) || b) (list_any-map test seen xs)

pub some_key : (test : meant.Key → Bool) (keys : List Key) → list_any (λ key. test (key_view key)) keys ≡ list_any test (map key_view keys)
some_key test keys = sym (list_any-map test key_view keys)

pub every_key : (test : meant.Key → Bool) (keys : List Key) → list_all (λ key. test (key_view key)) keys ≡ list_all test (map key_view keys)
every_key test keys = sym (list_all-map test key_view keys)

list_any-names : (name : List ℕ) (keys : List Key)
    → list_any (λ key. bytes_eq name (key_view key).name) keys ≡ list_any (bytes_eq name) (map (λ key. key.name) (map key_view keys))
list_any-names name keys =
    sym (list_any-map (bytes_eq name) (λ key. key.name) (map key_view keys)
    ∙ list_any-map (λ key. bytes_eq name key.name) key_view keys)

pub only_keys : (keys : List Key) (es : List (String Global × Value))
    → list_all (λ name. list_any (λ key. bytes_eq (string_bytes name) (key_view key).name) keys) (maps.keys_of es)
    ≡ has_only_keys (map key_view keys) (members_view es)
unfolding has_only_keys has_only
only_keys keys es =
    all_keys_view (λ name. list_any (λ key. bytes_eq name (key_view key).name) keys) es
    ∙ ap (λ test. list_all test (keys_in (members_view es))) (λ i name. list_any-names name keys i)
