-- The map of stored files, if one of them is looked up, replaced or added.
use Rattle.std.proofs.Common.{◌≡◌, ℕ, ◌+◌, ◌<◌, ◌≤◌, Bool, true, false, cond, not, Option, None, Some, List, [], ◌∷◌, ◌++◌, suc, IfSome, IfNone, IsSomeAnd, inl, inr, refl, subst, nat_lt, sym, ap, ◌∙◌, length, bytes_eq, string_bytes, arith}
use Rattle.std.proofs.lemmas.Bool.Decides.{Decides-ltb, nat_tests}
use Rattle.std.proofs.lemmas.Option.{slice_get_cases, slice_get_past}
use Rattle.std.proofs.lemmas.Slice.Eq.{bytes_eq-Decides}
use Rattle.std.proofs.lemmas.Map.Text.{is_eq-slice_cmp}
use Rattle.std.specs.Cmp.Lexicographic.{slice_cmp, nat_list_cmp_total}
use Rattle.std.specs.FinMap.{get, insert, get-empty, get-insert, same_map, nat_cmp-IsAntisymmetric, slice_cmp-IsAntisymmetric}
use Rattle.std.specs.List.{position, position_or_len, slice_get}
use Rattle.std.specs.Option.{option_map}
use Rattle.std.specs.Ordering.{nat_cmp}
use Rattle.std.specs.Prelude.{slice_set}
use Rattle.edge_io.specs.Observable.{Files}
use Rattle.edge_io.specs.inner.StoredFiles.{is_named, files_in}
use Rattle.edge_io.specs.declared.stored_files.StoredFile.{StoredFile}

-- The bytes of the first file of that name.
abbrev pub bytes_named : List ℕ → List StoredFile → Option (List ℕ)
bytes_named name [] = None
bytes_named name (file ∷ files) = cond (is_named name file) (Some file.bytes.items) (bytes_named name files)

-- ---- the map agrees with the files

get-insert_text : (files : Files) (name bytes q : List ℕ) → get (insert files name bytes) q ≡ cond (bytes_eq q name) (Some bytes) (get files q)
get-insert_text files name bytes q =
    get-insert nat_list_cmp_total files name bytes q ∙ ap (λ same. cond same (Some bytes) (get files q)) (is_eq-slice_cmp q name)

pub get-files_in : (stored : List StoredFile) (q : List ℕ) → get (files_in stored) q ≡ bytes_named q stored
get-files_in [] q = get-empty (slice_cmp nat_cmp) q
get-files_in (file ∷ files) q =
    get-insert_text (files_in files) (string_bytes file.name) file.bytes.items q
    ∙ ap (cond (is_named q file) (Some file.bytes.items)) (get-files_in files q)

-- The map of the new files is the old one with that entry, if this holds for each name.
pub files_unchanged : (new old : List StoredFile) (name bytes : List ℕ)
    → ((q : List ℕ) → bytes_named q new ≡ cond (bytes_eq q name) (Some bytes) (bytes_named q old)) → files_in new ≡ insert (files_in old) name bytes
files_unchanged new old name bytes says =
    same_map nat_list_cmp_total (slice_cmp-IsAntisymmetric nat_cmp-IsAntisymmetric) _ _
    (λ q. get-files_in new q ∙ says q ∙ sym (get-insert_text (files_in old) name bytes q ∙ ap (cond (bytes_eq q name) (Some bytes)) (get-files_in old q)))

-- ---- the index of the first file of a name

later : (n : ℕ) → 1 + n ≡ suc n
later n = omega arith

pub bytes_named-at : (name : List ℕ) (stored : List StoredFile)
    → bytes_named name stored ≡ option_map (λ (file : StoredFile). file.bytes.items) (slice_get stored (position_or_len (is_named name) stored))
bytes_named-at name [] = refl
bytes_named-at name (file ∷ files) =
    elim (is_named name file) as (λ here. cond here (Some file.bytes.items) (bytes_named name files)
    ≡ option_map (λ (one : StoredFile). one.bytes.items) (slice_get (file ∷ files) (cond (not here) (1 + position_or_len (is_named name) files) 0))) [
      | true ↦ refl
      | false ↦ bytes_named-at name files
          ∙ sym (ap (λ place. option_map (λ (one : StoredFile). one.bytes.items) (slice_get (file ∷ files) place)) (later (position_or_len (is_named name) files)))
    ]

-- ---- a file that replaces the first one of its name

-- Two tests that do not both hold may be evaluated in either order.
swapped : {A : Type 0} (a b : Bool) (u v w : A) → (a ≡ true → b ≡ true → ⊥) → cond a u (cond b v w) ≡ cond b v (cond a u w)
swapped true true u v w apart = absurd (apart refl refl)
swapped true false u v w apart = refl
swapped false true u v w apart = refl
swapped false false u v w apart = refl

shadowed : {A : Type 0} (b : Bool) (u v w : A) → cond b u w ≡ cond b u (cond b v w)
shadowed true u v w = refl
shadowed false u v w = refl

-- A name is not that of a file with another name.
apart : (name q : List ℕ) (file : StoredFile) → is_named name file ≡ false → is_named q file ≡ true → bytes_eq q name ≡ true → ⊥
apart name q file other this that =
    let here : q ≡ string_bytes file.name = (bytes_eq-Decides q (string_bytes file.name)).0 this in
    let same : q ≡ name = (bytes_eq-Decides q name).0 that in
    let named : is_named name file ≡ true = (bytes_eq-Decides name (string_bytes file.name)).1 (sym same ∙ here) in
    cc

-- The first file has the name (`here`) or not.
replaced_behind : (one : StoredFile) (files : List StoredFile) (name : List ℕ) (file : StoredFile) (q : List ℕ) (here : Bool)
    → string_bytes file.name ≡ name → is_named name one ≡ here
    → (here ≡ false → bytes_named q (slice_set files (position_or_len (is_named name) files) file) ≡ cond (bytes_eq q name) (Some file.bytes.items) (bytes_named q files))
    → bytes_named q (slice_set (one ∷ files) (cond (not here) (1 + position_or_len (is_named name) files) 0) file)
    ≡ cond (bytes_eq q name) (Some file.bytes.items) (bytes_named q (one ∷ files))
replaced_behind one files name file q true named is behind =
    let same : string_bytes one.name ≡ name = sym ((bytes_eq-Decides name (string_bytes one.name)).0 is) in
    ap (λ known. cond (bytes_eq q known) (Some file.bytes.items) (bytes_named q files)) named
    ∙ shadowed (bytes_eq q name) (Some file.bytes.items) (Some one.bytes.items) (bytes_named q files)
    ∙ ap (λ known. cond (bytes_eq q name) (Some file.bytes.items) (cond (bytes_eq q known) (Some one.bytes.items) (bytes_named q files))) (sym same)
replaced_behind one files name file q false named is behind =
    ap (λ place. bytes_named q (slice_set (one ∷ files) place file)) (later (position_or_len (is_named name) files))
    ∙ ap (cond (is_named q one) (Some one.bytes.items)) (behind refl)
    ∙ swapped (is_named q one) (bytes_eq q name) (Some one.bytes.items) (Some file.bytes.items) (bytes_named q files) (apart name q one is)

pub bytes_named-replaced : (stored : List StoredFile) (name : List ℕ) (file : StoredFile) (q : List ℕ) → string_bytes file.name ≡ name
    → position_or_len (is_named name) stored < length stored
    → bytes_named q (slice_set stored (position_or_len (is_named name) stored) file) ≡ cond (bytes_eq q name) (Some file.bytes.items) (bytes_named q stored)
bytes_named-replaced [] name file q named inside = absurd (omega arith)
bytes_named-replaced (one ∷ files) name file q named inside =
    replaced_behind one files name file q (is_named name one) named refl
    (λ other.
    let P : Bool → Type 0 = λ here. cond (not here) (1 + position_or_len (is_named name) files) 0 < length (one ∷ files) in
    let within : 1 + position_or_len (is_named name) files < length (one ∷ files) = subst P other inside in
    bytes_named-replaced files name file q named (omega arith))

-- ---- a file with a new name, at the end

added_behind : (one : StoredFile) (files : List StoredFile) (name : List ℕ) (file : StoredFile) (q : List ℕ) (here : Bool)
    → is_named name one ≡ here → length (one ∷ files) ≤ cond (not here) (1 + position_or_len (is_named name) files) 0
    → (length files ≤ position_or_len (is_named name) files → bytes_named q (files ++ file ∷ []) ≡ cond (bytes_eq q name) (Some file.bytes.items) (bytes_named q files))
    → bytes_named q ((one ∷ files) ++ file ∷ []) ≡ cond (bytes_eq q name) (Some file.bytes.items) (bytes_named q (one ∷ files))
added_behind one files name file q true is outside behind = absurd (omega arith)
added_behind one files name file q false is outside behind =
    ap (cond (is_named q one) (Some one.bytes.items)) (behind (omega arith))
    ∙ swapped (is_named q one) (bytes_eq q name) (Some one.bytes.items) (Some file.bytes.items) (bytes_named q files) (apart name q one is)

pub bytes_named-added : (stored : List StoredFile) (name : List ℕ) (file : StoredFile) (q : List ℕ) → string_bytes file.name ≡ name
    → length stored ≤ position_or_len (is_named name) stored
    → bytes_named q (stored ++ file ∷ []) ≡ cond (bytes_eq q name) (Some file.bytes.items) (bytes_named q stored)
bytes_named-added [] name file q named outside = ap (λ known. cond (bytes_eq q known) (Some file.bytes.items) None) named
bytes_named-added (one ∷ files) name file q named outside =
    added_behind one files name file q (is_named name one) refl outside (bytes_named-added files name file q named)

-- ---- the result of `position`

position_cases : (b : Bool) (j i : ℕ) → Some i ≡ cond b (Some j) None → (b ≡ true) × (i ≡ j)
position_cases true j i is = (refl, cc)
position_cases false j i is = cc

position_none : (b : Bool) (j : ℕ) → None ≡ cond b (Some j) None → b ≡ false
position_none true j is = cc
position_none false j is = refl

pub position_found : (p : StoredFile → Bool) (stored : List StoredFile) (i : ℕ) → Some i ≡ position p stored
    → (position_or_len p stored < length stored) × (i ≡ position_or_len p stored)
position_found p stored i is =
    let found = position_cases (nat_lt (position_or_len p stored) (length stored)) (position_or_len p stored) i is in
    ((Decides-ltb _ _).0 found.0, found.1)

pub position_not_found : (p : StoredFile → Bool) (stored : List StoredFile) → None ≡ position p stored → length stored ≤ position_or_len p stored
position_not_found p stored is = grind (arith, nat_tests, position_none (nat_lt (position_or_len p stored) (length stored)) (position_or_len p stored) is)

-- ---- the map after a file is put

pub files_in-replaced : (stored shown : List StoredFile) (name bytes : List ℕ) (file : StoredFile) (place : ℕ) → string_bytes file.name ≡ name → file.bytes.items ≡ bytes
    → shown ≡ stored → Some place ≡ position (is_named name) shown → files_in (slice_set stored place file) ≡ insert (files_in stored) name bytes
files_in-replaced stored shown name bytes file place named held same is =
    let found = position_found (is_named name) stored place (is ∙ ap (position (is_named name)) same) in
    ap (λ at. files_in (slice_set stored at file)) found.1
    ∙ files_unchanged (slice_set stored (position_or_len (is_named name) stored) file) stored name file.bytes.items (λ q. bytes_named-replaced stored name file q named found.0)
    ∙ ap (insert (files_in stored) name) held

pub files_in-added : (stored shown new : List StoredFile) (name bytes : List ℕ) (file : StoredFile) → string_bytes file.name ≡ name → file.bytes.items ≡ bytes
    → shown ≡ stored → None ≡ position (is_named name) shown → new ≡ stored ++ file ∷ [] → files_in new ≡ insert (files_in stored) name bytes
files_in-added stored shown new name bytes file named held same is grown =
    let missing = position_not_found (is_named name) stored (is ∙ ap (position (is_named name)) same) in
    ap files_in grown
    ∙ files_unchanged (stored ++ file ∷ []) stored name file.bytes.items (λ q. bytes_named-added stored name file q named missing)
    ∙ ap (insert (files_in stored) name) held

-- ---- an index, in terms of the map

named_at : (stored : List StoredFile) (name : List ℕ) (place : ℕ) (there : Option StoredFile) → place < length stored → slice_get stored place ≡ there
    → get (files_in stored) name ≡ option_map (λ (file : StoredFile). file.bytes.items) there
    → IsSomeAnd there (λ file. get (files_in stored) name ≡ Some file.bytes.items)
named_at stored name place None inside is says = elim (slice_get_cases stored place).1 [ inl found ↦ cc (found.2, is) | inr past ↦ absurd (omega (arith, past.0)) ]
named_at stored name place (Some file) inside is says = says

pub place_found : (stored : List StoredFile) (name : List ℕ) (place : Option ℕ) → place ≡ position (is_named name) stored
    → IfSome place (λ at. IsSomeAnd (slice_get stored at) (λ file. get (files_in stored) name ≡ Some file.bytes.items))
place_found stored name None is = tt
place_found stored name (Some place) is =
    let found = position_found (is_named name) stored place is in
    named_at stored name place (slice_get stored place) (rw found.1 found.0) refl
    (get-files_in stored name ∙ bytes_named-at name stored ∙ ap (λ at. option_map (λ (file : StoredFile). file.bytes.items) (slice_get stored at)) (sym found.1))

pub place_missing : (stored : List StoredFile) (name : List ℕ) (place : Option ℕ) → place ≡ position (is_named name) stored
    → IfNone place (get (files_in stored) name ≡ None)
place_missing stored name (Some place) is = tt
place_missing stored name None is =
    get-files_in stored name ∙ bytes_named-at name stored
    ∙ ap (option_map (λ (file : StoredFile). file.bytes.items)) (slice_get_past stored _ (position_not_found (is_named name) stored is))
