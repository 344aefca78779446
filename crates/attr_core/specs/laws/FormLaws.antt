-- The attributes after assigns in order are the assigned attributes.
use Rattle.std.proofs.Common.{◌≡◌, ◌≢◌, ℕ, suc, ◌+◌, ◌<◌, ◌==◌, Bool, true, false, List, [], ◌∷◌, ◌++◌, length, length-set, get_or, map, Option, Some, None, is_some, refl, sym, ap, ◌∙◌, arith}
use Rattle.std.proofs.lemmas.Bool.Decides.{nat_tests}
use Rattle.std.proofs.lemmas.List.{ext_get_or, get_or-set_same, length-append}
use Rattle.std.proofs.Common.{get_or-set_other}
use Rattle.std.proofs.lemmas.List.FromFn.{get_or-map-range_with_len, length-map-range_with_len}
use Rattle.std.specs.List.{range_with_len}
use Rattle.std.specs.Option.{option_or}
use Rattle.std.specs.Prelude.{if◌then◌else◌, slice_set, unwrap_or}
use Rattle.attr_core.specs.Assigns.{Given}
use Rattle.attr_core.specs.Forms.{assigned, bad_from, last_assigned}

abbrev pub set_said : {A : Type 0} → List A → ℕ → Option A → List A
set_said xs host None = xs
set_said xs host (Some x) = slice_set xs host x

abbrev pub set_all : {A : Type 0} → (List Given → Given → Option A) → List Given → List A → List Given → List A
set_all says earlier xs [] = xs
set_all says earlier xs (a ∷ rest) = set_all says (earlier ++ a ∷ []) (set_said xs a.host (says earlier a)) rest

pub length-set_said : {A : Type 0} (xs : List A) (host : ℕ) (o : Option A) → length (set_said xs host o) ≡ length xs
length-set_said xs host None = refl
length-set_said xs host (Some x) = length-set xs host x

pub length-set_all : {A : Type 0} (says : List Given → Given → Option A) (earlier : List Given) (xs : List A) (rest : List Given)
    → length (set_all says earlier xs rest) ≡ length xs
length-set_all says earlier xs [] = refl
length-set_all says earlier xs (a ∷ rest) = length-set_all says (earlier ++ a ∷ []) (set_said xs a.host (says earlier a)) rest ∙ length-set_said xs a.host (says earlier a)

same_host : (i j : ℕ) → (i == j) ≡ true → i ≡ j
same_host i j h = grind (arith, nat_tests)

other_host : (i j : ℕ) → (i == j) ≡ false → i ≢ j
other_host i j h same = grind (arith, nat_tests)

last_by : {A : Type 0} (xs : List A) (i host : ℕ) (d : A) (later here : Option A) (b : Bool) → (i == host) ≡ b → host < length xs
    → unwrap_or later (get_or (set_said xs i here) host d) ≡ unwrap_or (option_or later (if b then here else None)) (get_or xs host d)
last_by xs i host d (Some y) here b is within = refl
last_by xs i host d None None true is within = refl
last_by xs i host d None None false is within = refl
last_by xs i host d None (Some x) true is within =
    let same : i ≡ host = same_host i host is in
    ap (λ j. get_or (slice_set xs j x) host d) same ∙ get_or-set_same xs host x d within
last_by xs i host d None (Some x) false is within = get_or-set_other xs i host x d (λ same. other_host i host is (sym same))

pub get_or-set_all : {A : Type 0} (says : List Given → Given → Option A) (earlier : List Given) (xs : List A) (rest : List Given)
    (host : ℕ) (d : A) → host < length xs
    → get_or (set_all says earlier xs rest) host d ≡ unwrap_or (last_assigned says earlier host rest) (get_or xs host d)
get_or-set_all says earlier xs [] host d within = refl
get_or-set_all says earlier xs (a ∷ rest) host d within =
    let still : host < length (set_said xs a.host (says earlier a)) = rw (length-set_said xs a.host (says earlier a)) within in
    get_or-set_all says (earlier ++ a ∷ []) (set_said xs a.host (says earlier a)) rest host d still
    ∙ last_by xs a.host host d (last_assigned says (earlier ++ a ∷ []) host rest) (says earlier a) (a.host == host) refl within

pub set_all_assigned : {A : Type 0} (says : List Given → Given → Option A) (default : ℕ → A) (n : ℕ) (assigns : List Given)
    → set_all says [] (map default (range_with_len 0 n)) assigns ≡ assigned says default n assigns
set_all_assigned says default n assigns =
    let sized : length (map default (range_with_len 0 n)) ≡ n = length-map-range_with_len default 0 n in
    let whole : length (set_all says [] (map default (range_with_len 0 n)) assigns) ≡ n = length-set_all says [] (map default (range_with_len 0 n)) assigns ∙ sized in
    ext_get_or (default 0) (set_all says [] (map default (range_with_len 0 n)) assigns) (assigned says default n assigns)
    (whole ∙ sym (length-map-range_with_len (λ host. unwrap_or (last_assigned says [] host assigns) (default host)) 0 n))
    (λ host within.
    let below : host < n = rw whole at within in
    get_or-set_all says [] (map default (range_with_len 0 n)) assigns host (default 0) (rw sized below)
    ∙ ap (unwrap_or (last_assigned says [] host assigns)) (get_or-map-range_with_len default 0 n host host (default 0) below (omega arith))
    ∙ sym (get_or-map-range_with_len (λ i. unwrap_or (last_assigned says [] i assigns) (default i)) 0 n host host (default 0) below (omega arith)))

-- A bad assign is one of the given assigns.
within_by : {A : Type 0} (o : Option A) (n m k : ℕ) (later : Option ℕ) → (later ≡ Some k → k < n + 1 + m)
    → (if is_some o then later else Some n) ≡ Some k → k < n + suc m
within_by None n m k later behind is = let same : n ≡ k = cc in omega (arith, same)
within_by (Some x) n m k later behind is = omega (arith, behind is)

pub bad_within : {A : Type 0} (says : List Given → Given → Option A) (earlier rest : List Given) (k : ℕ)
    → bad_from says earlier rest ≡ Some k → k < length earlier + length rest
bad_within says earlier [] k is = cc
bad_within says earlier (a ∷ rest) k is =
    within_by (says earlier a) (length earlier) (length rest) k (bad_from says (earlier ++ a ∷ []) rest)
    (λ later. rw (length-append earlier (a ∷ [])) at (bad_within says (earlier ++ a ∷ []) rest k later)) is

-- Host by host.
pub attribute_at : {A : Type 0} (says : List Given → Given → Option A) (default : ℕ → A) (n : ℕ) (assigns : List Given) (host : ℕ)
    (d : A) → host < n
    → get_or (assigned says default n assigns) host d ≡ unwrap_or (last_assigned says [] host assigns) (default host)
attribute_at says default n assigns host d within = get_or-map-range_with_len (λ i. unwrap_or (last_assigned says [] i assigns) (default i)) 0 n host host d within (omega arith)
