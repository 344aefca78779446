-- The numbers of the hosts of the sample, in order, and properties of everything that is built from them.
use Rattle.std.proofs.Common.{◌≡◌, ℕ, zero, suc, ◌+◌, ◌≤◌, ◌<◌, List, [], ◌∷◌, length, map, All, AllPairs, refl, ap, arith}
use Rattle.std.proofs.lemmas.List.Elements.{All-nil, All-cons, All-filter, All-head, All-tail}
use Rattle.std.proofs.lemmas.List.Kept.{AllPairs-cons}
use Rattle.std.specs.List.{range_with_len}
use Rattle.table_core.specs.Listing.{each}
use Rattle.sample_core.specs.SampleTable.{hosts_in_care, sample_hosts}
use Rattle.sample_core.specs.inner.TableParts.{is_in_care}

abbrev pub IsBelow : ℕ → ℕ → Type 0
IsBelow n k = k < n

pub range_below : (start count n : ℕ) → start + count ≤ n → All (IsBelow n) (range_with_len start count)
range_below start zero n fits = All-nil (IsBelow n)
range_below start (suc count) n fits =
    All-cons (IsBelow n) start (range_with_len (start + 1) count) (omega (arith, fits))
    (range_below (start + 1) count n (omega (arith, fits)))

abbrev pub Ascends : ℕ → ℕ → Type 0
Ascends i j = i < j

range_above : (start count below : ℕ) → below < start → All (Ascends below) (range_with_len start count)
range_above start zero below above = All-nil (Ascends below)
range_above start (suc count) below above =
    All-cons (Ascends below) start (range_with_len (start + 1) count) above (range_above (start + 1) count below (omega (arith, above)))

pub range_ascends : (start count : ℕ) → AllPairs Ascends (range_with_len start count)
range_ascends start zero = λ i j d lower within. absurd (omega (arith, within))
range_ascends start (suc count) =
    AllPairs-cons Ascends start (range_with_len (start + 1) count) (range_above (start + 1) count start (omega arith))
    (range_ascends (start + 1) count)

pub hosts_below : (n : ℕ) → All (IsBelow n) (sample_hosts n)
hosts_below n = range_below 0 n n (omega arith)

pub care_below : (n : ℕ) → All (IsBelow n) (hosts_in_care n)
care_below n = All-filter is_in_care (IsBelow n) (sample_hosts n) (hosts_below n)

-- From a property of the numbers to a property of the values that are built from them.
pub each_made : {A : Type 0} (P : A → Type 0) (made : ℕ → A) (n : ℕ) → ((k : ℕ) → k < n → P (made k)) → (hosts : List ℕ)
    → All (IsBelow n) hosts → All P (map made hosts)
each_made P made n each [] below = All-nil P
each_made P made n each (k ∷ hosts) below =
    All-cons P (made k) (map made hosts) (each k (All-head (IsBelow n) k hosts below))
    (each_made P made n each hosts (All-tail (IsBelow n) k hosts below))

pub every_made : {A : Type 0} (P : A → Type 0) (made : ℕ → A) (hosts : List ℕ) → ((k : ℕ) → P (made k)) → All P (map made hosts)
every_made P made [] each = All-nil P
every_made P made (k ∷ hosts) each = All-cons P (made k) (map made hosts) (each k) (every_made P made hosts each)

later_made : {A : Type 0} (R : A → A → Type 0) (made : ℕ → A) (n i : ℕ) → i < n → ((i j : ℕ) → i < n → j < n → i < j → R (made i) (made j))
    → (hosts : List ℕ) → All (IsBelow n) hosts → All (Ascends i) hosts → All (R (made i)) (map made hosts)
later_made R made n i small each [] below above = All-nil (R (made i))
later_made R made n i small each (k ∷ hosts) below above =
    All-cons (R (made i)) (made k) (map made hosts)
    (each i k small (All-head (IsBelow n) k hosts below) (All-head (Ascends i) k hosts above))
    (later_made R made n i small each hosts (All-tail (IsBelow n) k hosts below) (All-tail (Ascends i) k hosts above))

pub pairs_made : {A : Type 0} (R : A → A → Type 0) (made : ℕ → A) (n : ℕ) → ((i j : ℕ) → i < n → j < n → i < j → R (made i) (made j))
    → (hosts : List ℕ) → All (IsBelow n) hosts → AllPairs Ascends hosts → AllPairs R (map made hosts)
pairs_made R made n each [] below ascends = λ i j d within lower. absurd (omega (arith, within))
pairs_made R made n each (k ∷ hosts) below ascends =
    let above : All (Ascends k) hosts = λ i d within. ascends zero (suc i) d (omega arith) (omega (arith, within)) in
    let rest : AllPairs Ascends hosts = λ i j d lower within. ascends (suc i) (suc j) d (omega (arith, lower)) (omega (arith, within)) in
    AllPairs-cons R (made k) (map made hosts)
    (later_made R made n k (All-head (IsBelow n) k hosts below) each hosts (All-tail (IsBelow n) k hosts below) above)
    (pairs_made R made n each hosts (All-tail (IsBelow n) k hosts below) rest)

pub length_made : {A : Type 0} (made : ℕ → A) (start count : ℕ) → length (map made (range_with_len start count)) ≡ count
length_made made start zero = refl
length_made made start (suc count) = ap suc (length_made made (start + 1) count)
