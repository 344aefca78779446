-- Sorted ranges: the range that may contain an address, and the insertion of a range.
use Rattle.std.proofs.Common.{◌≡◌, ℕ, zero, suc, ◌-◌, ◌≤◌, ◌<◌, Bool, true, false, cond, ◌||◌, nat_le, nat_lt, List, [], ◌∷◌, ◌++◌, length, get_or, take, drop, drop-cons, slice_get, slice_index_or, Option, Some, None, refl, sym, ap, ◌∙◌, arith, inl, inr}
use Rattle.std.specs.List.{insert, list_all}
use Rattle.std.specs.Option.{option_or}
use Rattle.std.specs.List.Sorted.{IsNonDecreasingBy}
use Rattle.std.proofs.lemmas.Bool.{and_from, and_parts, cases_lt, or_left, or_right, true_from_ne_false}
use Rattle.std.proofs.lemmas.Bool.Decides.{nat_tests}
use Rattle.std.proofs.lemmas.List.Folds.{list_all-append, list_any-append}
use Rattle.std.proofs.lemmas.List.{take-append-drop}
use Rattle.text_core.proofs.FirstsLaws.{neither}
use Rattle.text_core.specs.inner.Pairs.{no_pair}
use Rattle.host_net.specs.Host.{covers_any}
use Rattle.host_net.proofs.OwnerLaws.{parts_apart}
use Rattle.host_net.specs.Prefix.{covers, meets}
use Rattle.host_net.proofs.PrefixLaws.{covers_between}
use Rattle.host_net.specs.PrefixView.{first_address, last_address}
use Rattle.host_net.specs.declared.prefix.Prefix.{Prefix}
use Rattle.host_net.specs.inner.Ranges.{holder_among, holds, is_ordered}
use Rattle.host_net.specs.declared.ranges.Range.{Range}

-- What the order states about the first range.
pub record IsFirstOf (r : Range) (rs : List Range) : Type 0 where
  pub some : nat_le r.first r.last ≡ true
  pub before : list_all (λ s. nat_lt r.last s.first) rs ≡ true
  pub behind : is_ordered rs ≡ true

pub first_of : (r : Range) (rs : List Range) → is_ordered (r ∷ rs) ≡ true → IsFirstOf r rs
first_of r rs h =
    let (some, others) = and_parts (nat_le r.first r.last) _ h in
    let (before, behind) = and_parts (list_all (λ (s : Range). nat_lt r.last s.first) rs) _ others in
    record { some = some; before = before; behind = behind }

in_order : (r : Range) (rs : List Range) → IsFirstOf r rs → is_ordered (r ∷ rs) ≡ true
in_order r rs is = and_from (nat_le r.first r.last) _ is.some
    (and_from (list_all (λ (s : Range). nat_lt r.last s.first) rs) _ is.before is.behind)

-- The element at an index passes a test that all elements pass.
passes_at : {A : Type 0} (p : A → Bool) (xs : List A) (j : ℕ) (d : A) → list_all p xs ≡ true → j < length xs
    → p (slice_index_or xs j d) ≡ true
passes_at p [] j d h within = absurd (omega arith)
passes_at p (x ∷ xs) zero d h within = (and_parts (p x) (list_all p xs) h).0
passes_at p (x ∷ xs) (suc j) d h within = passes_at p xs j d (and_parts (p x) (list_all p xs) h).1 (omega arith)

first_rises : (f l s : ℕ) → nat_le f l ≡ true → nat_lt l s ≡ true → f ≤ s
first_rises f l s some before = grind (arith, nat_tests)

pub firsts_rise : (rs : List Range) → is_ordered rs ≡ true → IsNonDecreasingBy (λ r. r.first) rs
firsts_rise [] h i j d le within = absurd (omega arith)
firsts_rise (r ∷ rs) h zero zero d le within = omega arith
firsts_rise (r ∷ rs) h zero (suc j) d le within =
    let is = first_of r rs h in
    first_rises r.first r.last (slice_index_or rs j d).first is.some
    (passes_at (λ (s : Range). nat_lt r.last s.first) rs j d is.before (omega arith))
firsts_rise (r ∷ rs) h (suc i) zero d le within = absurd (omega arith)
firsts_rise (r ∷ rs) h (suc i) (suc j) d le within = firsts_rise rs (first_of r rs h).behind i j d (omega arith) (omega arith)

-- Tests by index are tests of a part of the list.
pub all_before : {A : Type 0} (p : A → Bool) (xs : List A) (i : ℕ) → i ≤ length xs
    → ((k : ℕ) (d : A) → 0 ≤ k → k < i → p (slice_index_or xs k d) ≡ true) → list_all p (take i xs) ≡ true
all_before p xs zero within passes = refl
all_before p [] (suc i) within passes = refl
all_before p (x ∷ xs) (suc i) within passes =
    and_from (p x) (list_all p (take i xs)) (passes 0 x (omega arith) (omega arith))
    (all_before p xs i (omega arith) (λ k d least below. passes (suc k) d (omega arith) (omega arith)))

all_of : {A : Type 0} (p q : A → Bool) → ((x : A) → p x ≡ false → q x ≡ true) → (xs : List A)
    → ((k : ℕ) (d : A) → 0 ≤ k → k < length xs → p (slice_index_or xs k d) ≡ false) → list_all q xs ≡ true
all_of p q turned [] fails = refl
all_of p q turned (x ∷ xs) fails =
    and_from (q x) (list_all q xs) (turned x (fails 0 x (omega arith) (omega arith)))
    (all_of p q turned xs (λ k d least below. fails (suc k) d (omega arith) (omega arith)))

pub all_behind : {A : Type 0} (p q : A → Bool) → ((x : A) → p x ≡ false → q x ≡ true) → (xs : List A) (i : ℕ)
    → ((k : ℕ) (d : A) → i ≤ k → k < length xs → p (slice_index_or xs k d) ≡ false) → list_all q (drop i xs) ≡ true
all_behind p q turned xs zero fails = all_of p q turned xs fails
all_behind p q turned [] (suc i) fails = refl
all_behind p q turned (x ∷ xs) (suc i) fails =
    all_behind p q turned xs i (λ k d least below. fails (suc k) d (omega arith) (omega arith))

pub not_begun : (a f : ℕ) → nat_le f a ≡ false → nat_lt a f ≡ true
not_begun a f h = grind (arith, nat_tests)

-- Ranges in two parts.
pub holder_among-append : (rs ss : List Range) (a : ℕ) → holder_among (rs ++ ss) a ≡ option_or (holder_among rs a) (holder_among ss a)
holder_among-append [] ss a = refl
holder_among-append (r ∷ rs) ss a =
    elim (holds r a) as (λ b. cond b (Some r.host) (holder_among (rs ++ ss) a) ≡ option_or (cond b (Some r.host) (holder_among rs a))
    (holder_among ss a)) [
      | true ↦ refl
      | false ↦ holder_among-append rs ss a
    ]

pub ordered_front : (rs ss : List Range) → is_ordered (rs ++ ss) ≡ true → is_ordered rs ≡ true
ordered_front [] ss h = refl
ordered_front (r ∷ rs) ss h =
    let is = first_of r (rs ++ ss) h in
    let (near, far) = and_parts (list_all (λ s. nat_lt r.last s.first) rs) _
    (sym (list_all-append (λ s. nat_lt r.last s.first) rs ss) ∙ is.before) in
    in_order r rs (record { some = is.some; before = near; behind = ordered_front rs ss is.behind })

-- A range that begins after an address does not contain it.
passed_over : (r : Range) (a : ℕ) → nat_lt a r.first ≡ true → holds r a ≡ false
passed_over r a behind = grind (arith, nat_tests)

pub none_behind : (rs : List Range) (a : ℕ) → list_all (λ r. nat_lt a r.first) rs ≡ true → holder_among rs a ≡ None
none_behind [] a h = refl
none_behind (r ∷ rs) a h =
    let (here, behind) = and_parts (nat_lt a r.first) _ h in
    rw (passed_over r a here) (none_behind rs a behind)

-- Of ranges that all begin at an address or before it, only the last may contain it.
ended : (r s : Range) (a : ℕ) → nat_lt r.last s.first ≡ true → nat_le s.first a ≡ true → holds r a ≡ false
ended r s a before begun = grind (arith, nat_tests)

whether : (r : Range) (a : ℕ) → nat_le r.first a ≡ true → holds r a ≡ nat_le a r.last
whether r a begun = rw begun refl

one_fewer : (x y : Range) (ys : List Range) → slice_get (x ∷ y ∷ ys) (length (x ∷ y ∷ ys) - 1) ≡ slice_get (y ∷ ys) (length (y ∷ ys) - 1)
one_fewer x y ys =
    let outer : suc (suc (length ys)) - 1 ≡ suc (length ys) = omega arith in
    let inner : length ys ≡ suc (length ys) - 1 = omega arith in
    ap (slice_get (x ∷ y ∷ ys)) outer ∙ ap (slice_get (y ∷ ys)) inner

pub held_by_last : (rs : List Range) (r : Range) (a : ℕ) → is_ordered rs ≡ true → list_all (λ s. nat_le s.first a) rs ≡ true
    → slice_get rs (length rs - 1) ≡ Some r
    → holder_among rs a ≡ cond (nat_le a r.last) (Some r.host) None
held_by_last [] r a h begun is = cc
held_by_last (x ∷ []) r a h begun is =
    let same : x ≡ r = cc in
    let here = (and_parts (nat_le x.first a) _ begun).0 in
    ap (λ b. cond b (Some x.host) None) (whether x a here) ∙ ap (λ (s : Range). cond (nat_le a s.last) (Some s.host) None) same
held_by_last (x ∷ y ∷ ys) r a h begun is =
    let first = first_of x (y ∷ ys) h in
    let others = (and_parts (nat_le x.first a) _ begun).1 in
    let next = (and_parts (nat_lt x.last y.first) _ first.before).0 in
    ap (λ b. cond b (Some x.host) (holder_among (y ∷ ys) a)) (ended x y a next (and_parts (nat_le y.first a) _ others).0)
    ∙ held_by_last (y ∷ ys) r a first.behind others (sym (one_fewer x y ys) ∙ is)

pub none_held : (rs : List Range) (a : ℕ) → slice_get rs (length rs - 1) ≡ None → holder_among rs a ≡ None
none_held [] a is = refl
none_held (x ∷ []) a is = cc
none_held (x ∷ y ∷ ys) a is = absurd (some_last y ys (sym (one_fewer x y ys) ∙ is))
  where
    some_last : (y : Range) (ys : List Range) → slice_get (y ∷ ys) (length (y ∷ ys) - 1) ≡ None → ⊥
    some_last y [] none = cc
    some_last y (z ∷ zs) none = some_last z zs (sym (one_fewer y z zs) ∙ none)

-- So a search among those is a search among all.
pub held_in_front : (rs : List Range) (i a : ℕ) → list_all (λ r. nat_lt a r.first) (drop i rs) ≡ true
    → holder_among rs a ≡ holder_among (take i rs) a
held_in_front rs i a behind =
    ap (λ ss. holder_among ss a) (sym (take-append-drop i rs))
    ∙ holder_among-append (take i rs) (drop i rs) a
    ∙ ap (option_or (holder_among (take i rs) a)) (none_behind (drop i rs) a behind)
    ∙ option_or-none (holder_among (take i rs) a)
  where
    option_or-none : (o : Option ℕ) → option_or o None ≡ o
    option_or-none None = refl
    option_or-none (Some n) = refl

pub front_in_order : (rs : List Range) (i : ℕ) → is_ordered rs ≡ true → is_ordered (take i rs) ≡ true
front_in_order rs i h = ordered_front (take i rs) (drop i rs) (ap is_ordered (take-append-drop i rs) ∙ h)

-- The result for the last range that begins at the address or before it, if there is one.
abbrev pub told : ℕ → Option Range → Option ℕ
told a None = None
told a (Some r) = cond (nat_le a r.last) (Some r.host) None

pub told_within : (a : ℕ) (r : Range) → a ≤ r.last → told a (Some r) ≡ Some r.host
told_within a r within =
    let passes : nat_le a r.last ≡ true = grind (arith, nat_tests) in
    ap (λ b. cond b (Some r.host) None) passes

pub told_beyond : (a : ℕ) (r : Range) → r.last < a → told a (Some r) ≡ None
told_beyond a r beyond =
    let fails : nat_le a r.last ≡ false = grind (arith, nat_tests) in
    ap (λ b. cond b (Some r.host) None) fails

told_of_last : (rs : List Range) (a : ℕ) (o : Option Range) → is_ordered rs ≡ true → list_all (λ s. nat_le s.first a) rs ≡ true
    → slice_get rs (length rs - 1) ≡ o → holder_among rs a ≡ told a o
told_of_last rs a None h begun is = none_held rs a is
told_of_last rs a (Some r) h begun is = held_by_last rs r a h begun is

pub holder_told : (rs : List Range) (i a : ℕ) (o : Option Range) → is_ordered rs ≡ true
    → list_all (λ s. nat_le s.first a) (take i rs) ≡ true
    → list_all (λ r. nat_lt a r.first) (drop i rs) ≡ true → slice_get (take i rs) (length (take i rs) - 1) ≡ o
    → holder_among rs a ≡ told a o
holder_told rs i a o h before behind is =
    held_in_front rs i a behind ∙ told_of_last (take i rs) a o (front_in_order rs i h) before is

-- A range of addresses without a holder is disjoint from all ranges.
abbrev pub IsFree : Range → List Range → Type 0
IsFree r rs = (a : ℕ) → holds r a ≡ true → holder_among rs a ≡ None

abbrev pub is_apart : Range → Range → Bool
is_apart r s = nat_lt s.last r.first || nat_lt r.last s.first

pub has_addresses : (r : Range) → r.first ≤ r.last → nat_le r.first r.last ≡ true
has_addresses r some = grind (arith, nat_tests)

holds_own_first : (r : Range) → nat_le r.first r.last ≡ true → holds r r.first ≡ true
holds_own_first r some = grind (arith, nat_tests)

holds_other_first : (r s : Range) → r.first ≤ s.first → is_apart r s ≡ false → holds r s.first ≡ true
holds_other_first r s from together = grind (arith, nat_tests)

holds_this_first : (r s : Range) → s.first ≤ r.first → is_apart r s ≡ false → holds s r.first ≡ true
holds_this_first r s from together = grind (arith, nat_tests)

held_here : (s : Range) (rs : List Range) (a : ℕ) → holds s a ≡ true → holder_among (s ∷ rs) a ≡ None → ⊥
held_here s rs a own none =
    let found : Some s.host ≡ None = sym (ap (λ b. cond b (Some s.host) (holder_among rs a)) own) ∙ none in
    cc

not_together : (r s : Range) (rs : List Range) → nat_le r.first r.last ≡ true → nat_le s.first s.last ≡ true → IsFree r (s ∷ rs)
    → is_apart r s ≡ false → ⊥
not_together r s rs some_r some_s free together = elim (cases_lt r.first s.first) [
  | inl less ↦ held_here s rs s.first (holds_own_first s some_s) (free s.first (holds_other_first r s (omega arith) together))
  | inr more ↦ held_here s rs r.first (holds_this_first r s more together) (free r.first (holds_own_first r some_r))
]

none_later : (b : Bool) (n : ℕ) (o : Option ℕ) → cond b (Some n) o ≡ None → o ≡ None
none_later true n o none = cc
none_later false n o none = none

free_apart : (r : Range) (rs : List Range) → nat_le r.first r.last ≡ true → is_ordered rs ≡ true → IsFree r rs
    → list_all (is_apart r) rs ≡ true
free_apart r [] some h free = refl
free_apart r (s ∷ rs) some h free =
    let is = first_of s rs h in
    and_from (is_apart r s) (list_all (is_apart r) rs) (true_from_ne_false (is_apart r s) (not_together r s rs some is.some free))
    (free_apart r rs some is.behind (λ a own. none_later (holds s a) s.host (holder_among rs a) (free a own)))

-- A range between those that begin before it and those that begin after it.
later : (r s : Range) → nat_lt r.first s.first ≡ true → nat_le s.first s.last ≡ true → is_apart r s ≡ true → nat_lt r.last s.first ≡ true
later r s behind some apart = grind (arith, nat_tests)

earlier : (r s : Range) → nat_le s.first r.first ≡ true → nat_le r.first r.last ≡ true → is_apart r s ≡ true → nat_lt s.last r.first ≡ true
earlier r s before some apart = grind (arith, nat_tests)

all_later : (r : Range) (ss : List Range) → is_ordered ss ≡ true → list_all (λ s. nat_lt r.first s.first) ss ≡ true
    → list_all (is_apart r) ss ≡ true → list_all (λ s. nat_lt r.last s.first) ss ≡ true
all_later r [] h behind apart = refl
all_later r (s ∷ ss) h behind apart =
    let is = first_of s ss h in
    let (here, others) = and_parts (nat_lt r.first s.first) _ behind in
    let (apart_here, apart_others) = and_parts (is_apart r s) (list_all (is_apart r) ss) apart in
    and_from (nat_lt r.last s.first) _ (later r s here is.some apart_here) (all_later r ss is.behind others apart_others)

between_in_order : (r : Range) (rs ss : List Range) → nat_le r.first r.last ≡ true → is_ordered (rs ++ ss) ≡ true
    → list_all (is_apart r) (rs ++ ss) ≡ true
    → list_all (λ s. nat_le s.first r.first) rs ≡ true → list_all (λ s. nat_lt r.first s.first) ss ≡ true → is_ordered (rs ++ r ∷ ss) ≡ true
between_in_order r [] ss some h apart before behind =
    in_order r ss (record { some = some; before = all_later r ss h behind apart; behind = h })
between_in_order r (x ∷ rs) ss some h apart before behind =
    let is = first_of x (rs ++ ss) h in
    let (here, others) = and_parts (nat_le x.first r.first) _ before in
    let (apart_here, apart_others) = and_parts (is_apart r x) (list_all (is_apart r) (rs ++ ss)) apart in
    let (near, far) = and_parts (list_all (λ s. nat_lt x.last s.first) rs) _
    (sym (list_all-append (λ s. nat_lt x.last s.first) rs ss) ∙ is.before) in
    let all_before : list_all (λ s. nat_lt x.last s.first) (rs ++ r ∷ ss) ≡ true =
    list_all-append (λ s. nat_lt x.last s.first) rs (r ∷ ss)
    ∙ and_from (list_all (λ s. nat_lt x.last s.first) rs) _ near
    (and_from (nat_lt x.last r.first) _ (earlier r x here some apart_here) far) in
    in_order x (rs ++ r ∷ ss)
    (record { some = is.some; before = all_before; behind = between_in_order r rs ss some is.behind apart_others others behind })

pub put_in_order : (r : Range) (rs : List Range) (i : ℕ) → nat_le r.first r.last ≡ true → is_ordered rs ≡ true → IsFree r rs
    → list_all (λ s. nat_le s.first r.first) (take i rs) ≡ true → list_all (λ s. nat_lt r.first s.first) (drop i rs) ≡ true
    → is_ordered (insert rs i r) ≡ true
put_in_order r rs i some h free before behind =
    let whole = take-append-drop i rs in
    between_in_order r (take i rs) (drop i rs) some (ap is_ordered whole ∙ h)
    (ap (list_all (is_apart r)) whole ∙ free_apart r rs some h free) before behind

held_between : (r : Range) (rs ss : List Range) (a : ℕ) (b : Bool) → holds r a ≡ b → (b ≡ true → holder_among (rs ++ ss) a ≡ None)
    → option_or (holder_among rs a) (cond b (Some r.host) (holder_among ss a)) ≡ cond b (Some r.host) (holder_among (rs ++ ss) a)
held_between r rs ss a true own free =
    ap (λ o. option_or o (Some r.host)) (neither (holder_among rs a) (holder_among ss a) (sym (holder_among-append rs ss a) ∙ free refl)).0
held_between r rs ss a false own free = sym (holder_among-append rs ss a)

pub put_held : (r : Range) (rs : List Range) (i a : ℕ) → IsFree r rs
    → holder_among (insert rs i r) a ≡ cond (holds r a) (Some r.host) (holder_among rs a)
put_held r rs i a free =
    let whole = take-append-drop i rs in
    holder_among-append (take i rs) (r ∷ drop i rs) a
    ∙ held_between r (take i rs) (drop i rs) a (holds r a) refl (λ own. ap (λ ss. holder_among ss a) whole ∙ free a own)
    ∙ ap (λ ss. cond (holds r a) (Some r.host) (holder_among ss a)) whole

-- The range of a prefix contains the addresses that the prefix covers.
pub same_test : (b c : Bool) → (b ≡ true → c ≡ true) → (c ≡ true → b ≡ true) → b ≡ c
same_test true c to from = sym (to refl)
same_test false true to from = from refl
same_test false false to from = refl

holds_between : (r : Range) (a : ℕ) → holds r a ≡ true → (r.first ≤ a) × (a ≤ r.last)
holds_between r a own = grind (arith, nat_tests)

between_holds : (r : Range) (a : ℕ) → r.first ≤ a → a ≤ r.last → holds r a ≡ true
between_holds r a from to = grind (arith, nat_tests)

pub holds_covers : (p : Prefix) (r : Range) (a : ℕ) → r.first ≡ first_address p → r.last ≡ last_address p → holds r a ≡ covers p a
holds_covers p r a first last =
    same_test (holds r a) (covers p a)
    (λ own. let between = holds_between r a own in (covers_between p a).1 (rw first at between.0, rw last at between.1))
    (λ own. let between = (covers_between p a).0 own in between_holds r a (rw first between.0) (rw last between.1))

pub first_to_last : (p : Prefix) → first_address p ≤ last_address p
unfolding first_address last_address
first_to_last p = omega arith

-- One more prefix of a host.
abbrev pub IsHeldWith : List Range → List Prefix → ℕ → List Range → Type 0
IsHeldWith rs at host all = (a : ℕ) → holder_among all a ≡ cond (covers_any at a) (Some host) (holder_among rs a)

no_prefix_yet : (rs all : List Range) (b : Bool) (host a : ℕ) → holder_among all a ≡ cond b (Some host) (holder_among rs a)
    → (b ≡ true → ⊥) → holder_among rs a ≡ None → holder_among all a ≡ None
no_prefix_yet rs all true host a held never none = absurd (never refl)
no_prefix_yet rs all false host a held never none = held ∙ none

pub free_next : (rs all : List Range) (at : List Prefix) (i host : ℕ) (p : Prefix) (r : Range) → i < length at → p ≡ get_or at i p
    → ((a : ℕ) → holds r a ≡ covers p a) → no_pair meets at ≡ true → ((a : ℕ) → covers_any at a ≡ true → holder_among rs a ≡ None)
    → IsHeldWith rs (take i at) host all → IsFree r all
free_next rs all at i host p r within here same apart free held = λ a own.
    let mine : covers p a ≡ true = sym (same a) ∙ own in
    let whole : take i at ++ p ∷ drop (suc i) at ≡ at =
    ap (λ ps. take i at ++ ps) (sym (drop-cons at i p within ∙ ap (λ q. q ∷ drop (suc i) at) (sym here))) ∙ take-append-drop i at in
    let rest : covers_any (p ∷ drop (suc i) at) a ≡ true = or_left (covers p a) (covers_any (drop (suc i) at) a) mine in
    let covered : covers_any at a ≡ true =
    ap (λ ps. covers_any ps a) (sym whole) ∙ list_any-append (λ q. covers q a) (take i at) (p ∷ drop (suc i) at)
    ∙ or_right (covers_any (take i at) a) (covers_any (p ∷ drop (suc i) at) a) rest in
    no_prefix_yet rs all (covers_any (take i at) a) host a (held a)
    (λ early. parts_apart a (take i at) (p ∷ drop (suc i) at) (ap (no_pair meets) whole ∙ apart) early rest)
    (free a covered)
