-- The result of the code's iteration over the labels of a table: the listed labels, or the reason why there is none.
use Rattle.std.proofs.Common.{◌≡◌, ◌≤◌, ◌<◌, ℕ, ◌+◌, ◌^◌, bit_or, ◌⊎◌, inl, inr, Bool, true, false, ◌||◌, nat_lt, List, [], ◌∷◌, ◌++◌, length, Option, Some, None, option_and_then, is_some, refl, sym, ap, ◌∙◌, subst, arith}
use Rattle.std.proofs.lemmas.Bool.Decides.{nat_tests}
use Rattle.std.proofs.lemmas.List.{length-append}
use Rattle.std.proofs.lemmas.Option.{option_and_then_some}
use Rattle.std.specs.List.{list_any, position_from}
use Rattle.std.specs.Prelude.{codes, if◌then◌else◌}
use Rattle.std.specs.Str.{bytes_eq}
use Rattle.table_core.specs.Listing.{each}
use Rattle.table_core.specs.inner.Listing.{grow}
use Rattle.table_core.specs.Tables.{list_or_empty}
use Rattle.toml.specs.Data.{Data, Members}
use Rattle.attr_core.specs.inner.LabelWalk.{Known, LabelSet, Labelled, all_labels, and_label, are_among, known_or_new, labelled, labels_at, new_label, numbered}
use Rattle.attr_core.specs.Tainting.{different, is_listed, label_in, labels_in, with_label}

-- Too many labels.
pub record TooMany (labels : List (List ℕ)) (taints untaints : Option (List (List ℕ))) : Type 0 where
  pub first : List (List ℕ)
  pub second : List (List ℕ)
  pub listed : taints ≡ Some first
  pub behind : untaints ≡ Some second
  pub many : 64 < length (different (different labels first) second)

-- A label is removed that is not added.
pub record TakesOffMore (labels : List (List ℕ)) (table : Members) : Type 0 where
  pub taints : LabelSet
  pub untaints : LabelSet
  pub listed : labels_at (codes "taints") labels table ≡ Some taints
  pub behind : labels_at (codes "untaints") taints.labels table ≡ Some untaints
  pub more : are_among untaints.bits taints.bits ≡ false

-- A label has an index if and only if it is listed.
placed_by : (b : Bool) (n : ℕ) (later : Option ℕ) (rest : Bool) → is_some later ≡ rest → is_some (if b then Some n else later) ≡ (b || rest)
placed_by true n later rest is = refl
placed_by false n later rest is = is

is_placed : (label : List ℕ) (n : ℕ) (labels : List (List ℕ))
    → is_some (position_from (bytes_eq label) n labels) ≡ list_any (bytes_eq label) labels
is_placed label n [] = refl
is_placed label n (l ∷ ls) =
    placed_by (bytes_eq label l) n (position_from (bytes_eq label) (n + 1) ls) (list_any (bytes_eq label) ls) (is_placed label (n + 1) ls)

with_is : (labels : List (List ℕ)) (label : List ℕ)
    → (if is_some (position_from (bytes_eq label) 0 labels) then labels else labels ++ label ∷ []) ≡ with_label labels label
with_is labels label = ap (λ b. if b then labels else labels ++ label ∷ []) (is_placed label 0 labels)

-- One label.
abbrev known_as : List (List ℕ) → ℕ → Known
known_as labels number = record { labels = labels; number = number }

numbered_by : (labels : List (List ℕ)) (label : List ℕ) (o : Option ℕ) (known : Known) → length labels ≤ 64
    → known_or_new labels label o ≡ Some known
    → (known.labels ≡ (if is_some o then labels else labels ++ label ∷ [])) × (length known.labels ≤ 64)
unfolding new_label
numbered_by labels label (Some n) known few is = let same : labels ≡ known.labels = cc in (sym same, rw (← same) few)
numbered_by labels label None known few is = new_by (nat_lt (length labels) 64) refl is
  where
    new_by : (b : Bool) → nat_lt (length labels) 64 ≡ b
        → (if b then Some (known_as (labels ++ label ∷ []) (length labels)) else None) ≡ Some known
        → (known.labels ≡ labels ++ label ∷ []) × (length known.labels ≤ 64)
    new_by false room is = cc
    new_by true room is =
        let same : labels ++ label ∷ [] ≡ known.labels = cc in
        let below : length labels < 64 = grind (arith, nat_tests) in
        let longer = length-append labels (label ∷ []) in
        (sym same, rw (← same) (omega (arith, below, longer)))

full_by : (labels : List (List ℕ)) (label : List ℕ) (o : Option ℕ) → known_or_new labels label o ≡ None
    → 64 < length (if is_some o then labels else labels ++ label ∷ [])
unfolding new_label
full_by labels label (Some n) is = cc
full_by labels label None is = none_by (nat_lt (length labels) 64) refl is
  where
    none_by : (b : Bool) → nat_lt (length labels) 64 ≡ b
        → (if b then Some (known_as (labels ++ label ∷ []) (length labels)) else None) ≡ None → 64 < length (labels ++ label ∷ [])
    none_by true room is = cc
    none_by false room is =
        let above : 64 ≤ length labels = grind (arith, nat_tests) in
        omega (arith, above, length-append labels (label ∷ []))

-- Labels are only added.
kept_by : (b : Bool) (labels : List (List ℕ)) (label : List ℕ) → length labels ≤ length (if b then labels else labels ++ label ∷ [])
kept_by true labels label = omega arith
kept_by false labels label = omega (arith, length-append labels (label ∷ []))

pub more_labels : (labels more : List (List ℕ)) → length labels ≤ length (different labels more)
more_labels labels [] = omega arith
more_labels labels (l ∷ ls) = omega (arith, kept_by (is_listed labels l) labels l, more_labels (with_label labels l) ls)

-- A list.
abbrev set_of : List (List ℕ) → ℕ → LabelSet
set_of labels bits = record { labels = labels; bits = bits }

abbrev pub said_by : LabelSet → LabelSet → Labelled
said_by t u = record { labels = u.labels; attribute = record { taints = t.bits; untaints = u.bits } }

one_read : (s : LabelSet) (d : Data) (u : LabelSet) → length s.labels ≤ 64 → and_label s d ≡ Some u
    → (label : List ℕ) × (label_in d ≡ Some label) × (u.labels ≡ with_label s.labels label) × (length u.labels ≤ 64)
unfolding and_label numbered
one_read s d u few is =
    option_and_then_some _ (label_in d) u is (λ label is_label rest.
    option_and_then_some _ (numbered s.labels label) u rest (λ known is_known last.
    let (labels, still) = numbered_by s.labels label (position_from (bytes_eq label) 0 s.labels) known few is_known in
    let same : known.labels ≡ u.labels = cc in
    (label, is_label, sym same ∙ labels ∙ with_is s.labels label, rw (← same) still)))

read_by : (s u t : LabelSet) (d : Data) (ds : List Data) (label : List ℕ) → label_in d ≡ Some label → u.labels ≡ with_label s.labels label
    → (ls : List (List ℕ)) × (each label_in ds ≡ Some ls) × (t.labels ≡ different u.labels ls) × (length t.labels ≤ 64)
    → (ls : List (List ℕ)) × (each label_in (d ∷ ds) ≡ Some ls) × (t.labels ≡ different s.labels ls) × (length t.labels ≤ 64)
read_by s u t d ds label here more (ls, listed, labels, few) = (label ∷ ls, rw (here, listed) refl, labels ∙ ap (λ first. different first ls) more, few)

all_read : (s : LabelSet) (ds : List Data) (t : LabelSet) → length s.labels ≤ 64 → grow and_label s ds ≡ Some t
    → (ls : List (List ℕ)) × (each label_in ds ≡ Some ls) × (t.labels ≡ different s.labels ls) × (length t.labels ≤ 64)
all_read s [] t few is = let same : s ≡ t = cc in ([], refl, ap (λ (u : LabelSet). u.labels) (sym same), subst (λ (u : LabelSet). length u.labels ≤ 64) same few)
all_read s (d ∷ ds) t few is =
    option_and_then_some _ (and_label s d) t is (λ u is_u rest.
    let (label, here, more, still) = one_read s d u few is_u in
    read_by s u t d ds label here more (all_read u ds t still rest))

-- If a list is invalid.
behind_by : (labels : List (List ℕ)) (d : Data) (ds : List Data) (label : List ℕ) (first : List (List ℕ)) (o : Option (List (List ℕ)))
    → label_in d ≡ Some label → each label_in ds ≡ o → first ≡ with_label labels label
    → ((ls : List (List ℕ)) → o ≡ Some ls → 64 < length (different first ls))
    → (each label_in (d ∷ ds) ≡ None) ⊎ ((ls : List (List ℕ)) × (each label_in (d ∷ ds) ≡ Some ls) × (64 < length (different labels ls)))
behind_by labels d ds label first None here rest is many = inl (rw (here, rest) refl)
behind_by labels d ds label first (Some ls) here rest is many = inr (label ∷ ls, rw (here, rest) refl, rw (← is) (many ls refl))

silent : (d : Data) (ds : List Data) → label_in d ≡ None → each label_in (d ∷ ds) ≡ None
silent d ds here = rw here refl

left_by : (labels : List (List ℕ)) (d : Data) (ds : List Data) (label : List ℕ) (first : List (List ℕ)) → label_in d ≡ Some label
    → first ≡ with_label labels label
    → (each label_in ds ≡ None) ⊎ ((ls : List (List ℕ)) × (each label_in ds ≡ Some ls) × (64 < length (different first ls)))
    → (each label_in (d ∷ ds) ≡ None) ⊎ ((ls : List (List ℕ)) × (each label_in (d ∷ ds) ≡ Some ls) × (64 < length (different labels ls)))
left_by labels d ds label first here is (inl none) = inl (rw (here, none) refl)
left_by labels d ds label first here is (inr (ls, listed, many)) = inr (label ∷ ls, rw (here, listed) refl, rw (← is) many)

abbrev Fails : List (List ℕ) → List Data → Type 0
Fails labels ds = (each label_in ds ≡ None) ⊎ ((ls : List (List ℕ)) × (each label_in ds ≡ Some ls) × (64 < length (different labels ls)))

known_fails : (s : LabelSet) (d : Data) (ds : List Data) (label : List ℕ) (p : Option Known) → length s.labels ≤ 64
    → label_in d ≡ Some label → numbered s.labels label ≡ p
    → ((u : LabelSet) → length u.labels ≤ 64 → grow and_label u ds ≡ None → Fails u.labels ds)
    → option_and_then (λ t. grow and_label t ds) (option_and_then (λ (k : Known). Some (set_of k.labels (bit_or s.bits (2 ^ k.number)))) p) ≡ None → Fails s.labels (d ∷ ds)
unfolding numbered
known_fails s d ds label None few here none behind is =
    let full : 64 < length (with_label s.labels label) =
    subst (λ (ls : List (List ℕ)). 64 < length ls) (with_is s.labels label) (full_by s.labels label (position_from (bytes_eq label) 0 s.labels) none) in
    behind_by s.labels d ds label (with_label s.labels label) (each label_in ds) here refl refl (λ ls listed. omega (arith, full, more_labels (with_label s.labels label) ls))
known_fails s d ds label (Some k) few here some behind is =
    let (labels, still) = numbered_by s.labels label (position_from (bytes_eq label) 0 s.labels) k few some in
    left_by s.labels d ds label k.labels here (labels ∙ with_is s.labels label) (behind (set_of k.labels (bit_or s.bits (2 ^ k.number))) still is)

label_fails : (s : LabelSet) (d : Data) (ds : List Data) (o : Option (List ℕ)) → length s.labels ≤ 64 → label_in d ≡ o
    → ((u : LabelSet) → length u.labels ≤ 64 → grow and_label u ds ≡ None → Fails u.labels ds)
    → option_and_then (λ t. grow and_label t ds) (option_and_then (λ label. option_and_then (λ (k : Known). Some (set_of k.labels (bit_or s.bits (2 ^ k.number)))) (numbered s.labels label)) o) ≡ None → Fails s.labels (d ∷ ds)
label_fails s d ds None few here behind is = inl (silent d ds here)
label_fails s d ds (Some label) few here behind is = known_fails s d ds label (numbered s.labels label) few here refl behind is

all_fail : (s : LabelSet) (ds : List Data) → length s.labels ≤ 64 → grow and_label s ds ≡ None → Fails s.labels ds
unfolding and_label
all_fail s [] few is = cc
all_fail s (d ∷ ds) few is = label_fails s d ds (label_in d) few refl (λ u still none. all_fail u ds still none) is

-- The labels at a key.
key_read : (key : List ℕ) (labels : List (List ℕ)) (table : Members) (t : LabelSet) → length labels ≤ 64
    → labels_at key labels table ≡ Some t
    → (ls : List (List ℕ)) × (labels_in key table ≡ Some ls) × (t.labels ≡ different labels ls) × (length t.labels ≤ 64)
unfolding labels_at all_labels
key_read key labels table t few is =
    option_and_then_some _ (list_or_empty key table) t is (λ ds is_ds rest.
    let (ls, listed, more, still) = all_read (set_of labels 0) ds t few rest in
    (ls, rw is_ds listed, more, still))

key_fails_by : (labels : List (List ℕ)) (o : Option (List Data)) → length labels ≤ 64
    → option_and_then (λ ds. grow and_label (set_of labels 0) ds) o ≡ None
    → (option_and_then (each label_in) o ≡ None) ⊎ ((ls : List (List ℕ)) × (option_and_then (each label_in) o ≡ Some ls) × (64 < length (different labels ls)))
key_fails_by labels None few is = inl refl
key_fails_by labels (Some ds) few is = all_fail (set_of labels 0) ds few is

key_fails : (key : List ℕ) (labels : List (List ℕ)) (table : Members) → length labels ≤ 64 → labels_at key labels table ≡ None
    → (labels_in key table ≡ None) ⊎ ((ls : List (List ℕ)) × (labels_in key table ≡ Some ls) × (64 < length (different labels ls)))
unfolding labels_at all_labels
key_fails key labels table few is = key_fails_by labels (list_or_empty key table) few is

-- A table has no attribute after these labels: one of its lists is no list of labels, there are too many distinct ones, or it removes a
-- label that it does not add.
abbrev pub IsBad : List (List ℕ) → Members → Type 0
IsBad labels table =
    ((labels_in (codes "taints") table ≡ None) ⊎ (labels_in (codes "untaints") table ≡ None))
    ⊎ (TooMany labels (labels_in (codes "taints") table) (labels_in (codes "untaints") table) ⊎ TakesOffMore labels table)

first_fails : (labels : List (List ℕ)) (taints untaints : Option (List (List ℕ))) (more : Type 0)
    → (taints ≡ None) ⊎ ((ls : List (List ℕ)) × (taints ≡ Some ls) × (64 < length (different labels ls)))
    → ((taints ≡ None) ⊎ (untaints ≡ None)) ⊎ (TooMany labels taints untaints ⊎ more)
first_fails labels taints untaints more (inl none) = inl (inl none)
first_fails labels taints None more (inr (ls, listed, many)) = inl (inr refl)
first_fails labels taints (Some us) more (inr (ls, listed, many)) =
    inr (inl (record { first = ls; second = us; listed = listed; behind = refl; many = omega (arith, many, more_labels (different labels ls) us) }))

second_fails : (labels first ts : List (List ℕ)) (taints untaints : Option (List (List ℕ))) (more : Type 0) → taints ≡ Some ts
    → first ≡ different labels ts
    → (untaints ≡ None) ⊎ ((ls : List (List ℕ)) × (untaints ≡ Some ls) × (64 < length (different first ls)))
    → ((taints ≡ None) ⊎ (untaints ≡ None)) ⊎ (TooMany labels taints untaints ⊎ more)
second_fails labels first ts taints untaints more here is (inl none) = inl (inr none)
second_fails labels first ts taints untaints more here is (inr (us, listed, many)) = inr (inl (record { first = ts; second = us; listed = here; behind = listed; many = rw (← is) many }))

last_fails : {A : Type 0} (b : Bool) (x : A) → (if b then Some x else None) ≡ None → b ≡ false
last_fails true x is = cc
last_fails false x is = refl

second_by : (labels : List (List ℕ)) (table : Members) (t : LabelSet) (p : Option LabelSet) → length labels ≤ 64
    → labels_at (codes "taints") labels table ≡ Some t → labels_at (codes "untaints") t.labels table ≡ p
    → option_and_then (λ (u : LabelSet). if are_among u.bits t.bits then Some (said_by t u) else None) p ≡ None → IsBad labels table
second_by labels table t None few here none is =
    let (ts, listed, more, still) = key_read (codes "taints") labels table t few here in
    second_fails labels t.labels ts (labels_in (codes "taints") table) (labels_in (codes "untaints") table) (TakesOffMore labels table) listed more (key_fails (codes "untaints") t.labels table still none)
second_by labels table t (Some u) few here some is =
    inr (inr (record { taints = t; untaints = u; listed = here; behind = some; more = last_fails (are_among u.bits t.bits) (said_by t u) is }))

first_by : (labels : List (List ℕ)) (table : Members) (o : Option LabelSet) → length labels ≤ 64
    → labels_at (codes "taints") labels table ≡ o
    → option_and_then (λ (t : LabelSet). option_and_then (λ (u : LabelSet). if are_among u.bits t.bits then Some (said_by t u) else None) (labels_at (codes "untaints") t.labels table)) o ≡ None → IsBad labels table
first_by labels table None few none is = first_fails labels (labels_in (codes "taints") table) (labels_in (codes "untaints") table) (TakesOffMore labels table) (key_fails (codes "taints") labels table few none)
first_by labels table (Some t) few some is = second_by labels table t (labels_at (codes "untaints") t.labels table) few some refl is

pub bad_labels_are : (labels : List (List ℕ)) (table : Members) → length labels ≤ 64 → labelled labels table ≡ None → IsBad labels table
unfolding labelled
bad_labels_are labels table few is = first_by labels table (labels_at (codes "taints") labels table) few refl is

-- A table with an attribute adds the listed labels, taints first.
pub labelled_read : (labels : List (List ℕ)) (table : Members) (l : Labelled) → length labels ≤ 64 → labelled labels table ≡ Some l
    → (ts : List (List ℕ)) ×
    (us : List (List ℕ)) × (labels_in (codes "taints") table ≡ Some ts) × (labels_in (codes "untaints") table ≡ Some us) × (l.labels ≡ different (different labels ts) us) × (length l.labels ≤ 64)
unfolding labelled
labelled_read labels table l few is =
    option_and_then_some _ (labels_at (codes "taints") labels table) l is (λ t is_t rest.
    option_and_then_some _ (labels_at (codes "untaints") t.labels table) l rest (λ u is_u last.
    let (ts, first, more, still) = key_read (codes "taints") labels table t few is_t in
    let (us, second, most, small) = key_read (codes "untaints") t.labels table u still is_u in
    let same : u.labels ≡ l.labels = ended_by (are_among u.bits t.bits) t u l last in
    (ts, us, first, second, sym same ∙ most ∙ ap (λ before. different before us) more, rw (← same) small)))
  where
    ended_by : (b : Bool) (t u : LabelSet) (l : Labelled) → (if b then Some (said_by t u) else None) ≡ Some l → u.labels ≡ l.labels
    ended_by true t u l is = let same : said_by t u ≡ l = cc in ap (λ (x : Labelled). x.labels) same
    ended_by false t u l is = cc
