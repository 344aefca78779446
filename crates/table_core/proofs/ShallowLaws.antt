-- A table is shallow if the value of each key that it may have is. The keys of a table that `toml` parses ascend, so each of its members is
-- the value at its key.
use Rattle.std.proofs.Common.{◌≡◌, ℕ, suc, max, ◌≤◌, Bool, true, false, ◌&&◌, ◌||◌, List, [], ◌∷◌, map, Some, option_and_then, is_some, Ordering, Less, Equal, Greater, nat_cmp, refl, ap, ◌∙◌, sym, subst, arith}
use Rattle.std.proofs.lemmas.Bool.{and_from, and_parts, false≢true}
use Rattle.std.proofs.lemmas.Bool.Decides.{nat_tests}
use Rattle.std.proofs.lemmas.Cmp.{nat_list_cmp_total}
use Rattle.std.proofs.lemmas.Slice.Eq.{bytes_eq-Decides}
use Rattle.std.specs.Cmp.{tied_itself}
use Rattle.std.specs.Cmp.Lexicographic.{slice_cmp}
use Rattle.std.specs.List.{AllByRecursion, AllZip, list_all, list_any}
use Rattle.std.specs.Option.{option_map_or}
use Rattle.std.specs.Ordering.{is_lt, ordering_reverse}
use Rattle.std.specs.Str.{bytes_eq}
use Rattle.toml.specs.Data.{Data, string, integer, boolean, array, table, Items, no_items, item, Members, no_members, member, depth, items_depth, members_depth, as_bool, as_integer, as_str, get_member, is_before, is_sorted, items_are_sorted, members_are_sorted}
use Rattle.table_core.specs.Keys.{Key, Kind, Text, OneOf, Integer, Number, Boolean, Array, Texts, all_suit, has_only_keys, is_one_of, is_text, stands_at, suits_in}
use Rattle.table_core.specs.Shallow.{IsShallow, is_plain, items_are_plain, members_are_plain}
use Rattle.table_core.specs.Tables.{all_keys, boolean_at, elements, elements_of, has_key, has_only, integer_at, keys_in, list_at, number_at, number_of, text_at}

-- Each member, by its key and its value.
abbrev AllMembers : (List ℕ → Data → Type 0) → Members → Type 0
AllMembers Is no_members = Unit {0}
AllMembers Is (member k d ms) = Is k d × AllMembers Is ms

weaker : (P Q : List ℕ → Data → Type 0) (ms : Members) → ((k : List ℕ) (d : Data) → P k d → Q k d) → AllMembers P ms → AllMembers Q ms
weaker P Q no_members step all = tt
weaker P Q (member k d ms) step (here, behind) = (step k d here, weaker P Q ms step behind)

both : (P Q : List ℕ → Data → Type 0) (ms : Members) → AllMembers P ms → AllMembers Q ms → AllMembers (λ k d. P k d × Q k d) ms
both P Q no_members first second = tt
both P Q (member k d ms) (here, behind) (there, after) = ((here, there), both P Q ms behind after)

is_less : (o : Ordering) → is_lt o ≡ true → o ≡ Less
is_less Less h = refl
is_less Equal h = absurd (false≢true h)
is_less Greater h = absurd (false≢true h)

-- The first key, its value and the rest of a table whose keys ascend.
pub record IsAscending (k : List ℕ) (d : Data) (ms : Members) : Type 0 where
  pub first : is_before k ms ≡ true
  pub here : is_sorted d ≡ true
  pub behind : members_are_sorted ms ≡ true

ascending : (k : List ℕ) (d : Data) (ms : Members) → members_are_sorted (member k d ms) ≡ true → IsAscending k d ms
ascending k d ms sorted =
    let (front, behind) = and_parts (is_before k ms && is_sorted d) (members_are_sorted ms) sorted in
    let (first, here) = and_parts (is_before k ms) (is_sorted d) front in
    record { first = first; here = here; behind = behind }

all_after : (l : List ℕ) (ms : Members) → is_before l ms ≡ true → members_are_sorted ms ≡ true
    → AllMembers (λ k d. slice_cmp nat_cmp l k ≡ Less) ms
all_after l no_members first sorted = tt
all_after l (member k d ms) first sorted =
    let up = ascending k d ms sorted in
    let less = is_less (slice_cmp nat_cmp l k) first in (
      less,
      weaker (λ j e. slice_cmp nat_cmp k j ≡ Less) (λ j e. slice_cmp nat_cmp l j ≡ Less) ms (λ j e. nat_list_cmp_total.trans l k j less)
          (all_after k ms up.first up.behind),
    )

found_behind : (l : List ℕ) (e : Data) (ms : Members) (k : List ℕ) (d : Data) → slice_cmp nat_cmp l k ≡ Less → get_member k ms ≡ Some d
    → get_member k (member l e ms) ≡ Some d
found_behind l e ms k d less found =
    let greater : slice_cmp nat_cmp k l ≡ Greater = nat_list_cmp_total.antisymm k l ∙ ap ordering_reverse less in
    rw greater found

-- The value at the key of a member is its value.
each_found : (ms : Members) → members_are_sorted ms ≡ true → AllMembers (λ k d. get_member k ms ≡ Some d) ms
each_found no_members sorted = tt
each_found (member l e ms) sorted =
    let up = ascending l e ms sorted in (
      rw (tied_itself nat_list_cmp_total l) refl,
      weaker (λ k d. (slice_cmp nat_cmp l k ≡ Less) × (get_member k ms ≡ Some d)) (λ k d. get_member k (member l e ms) ≡ Some d) ms
          (λ k d (less, found). found_behind l e ms k d less found)
          (both (λ k d. slice_cmp nat_cmp l k ≡ Less) (λ k d. get_member k ms ≡ Some d) ms (all_after l ms up.first up.behind) (each_found ms up.behind)),
    )

each_sorted : (ms : Members) → members_are_sorted ms ≡ true → AllMembers (λ k d. is_sorted d ≡ true) ms
each_sorted no_members sorted = tt
each_sorted (member k d ms) sorted = let up = ascending k d ms sorted in (up.here, each_sorted ms up.behind)

each_key : (test : List ℕ → Bool) (ms : Members) → all_keys test ms ≡ true → AllMembers (λ k d. test k ≡ true) ms
each_key test no_members all = tt
each_key test (member k d ms) all =
    let (here, behind) = and_parts (test k) (list_all test (keys_in ms)) all in
    (here, each_key test ms behind)

-- ---- tables and arrays

most_of : (a b n : ℕ) → a ≤ n → b ≤ n → max a b ≤ n
most_of a b n first second = grind (arith, nat_tests)

members_shallow : (n : ℕ) (ms : Members) → AllMembers (λ k d. IsShallow n d) ms → (members_depth ms ≤ n) × (members_are_plain ms ≡ true)
members_shallow n no_members all = (omega arith, refl)
members_shallow n (member k d ms) ((deep, plain), behind) =
    let (deep_behind, plain_behind) = members_shallow n ms behind in
    (most_of (depth d) (members_depth ms) n deep deep_behind, and_from (is_plain d) (members_are_plain ms) plain plain_behind)

-- The value at the key, if any, is shallow.
abbrev pub IsShallowAt : ℕ → Members → List ℕ → Type 0
IsShallowAt n ms key = (d : Data) → get_member key ms ≡ Some d → is_sorted d ≡ true → IsShallow n d

at_key_by : (n : ℕ) (ms : Members) (key k : List ℕ) (b others : Bool) → bytes_eq k key ≡ b → IsShallowAt n ms key
    → (others ≡ true → IsShallowAt n ms k) → (b || others) ≡ true → IsShallowAt n ms k
at_key_by n ms key k true others same here behind one = subst (IsShallowAt n ms) (sym ((bytes_eq-Decides k key).0 same)) here
at_key_by n ms key k false others other here behind one = behind one

at_key : (n : ℕ) (ms : Members) (keys : List (List ℕ)) (k : List ℕ) → list_any (bytes_eq k) keys ≡ true
    → AllByRecursion (IsShallowAt n ms) keys → IsShallowAt n ms k
at_key n ms [] k one all = absurd (false≢true one)
at_key n ms (key ∷ keys) k one (here, behind) =
    at_key_by n ms key k (bytes_eq k key) (list_any (bytes_eq k) keys) refl here (λ other. at_key n ms keys k other behind) one

-- A table is shallow if it has only these keys, and the value of each of them is.
pub table_shallow : (n : ℕ) (ms : Members) (keys : List (List ℕ)) → members_are_sorted ms ≡ true → has_only keys ms ≡ true
    → AllByRecursion (IsShallowAt n ms) keys → IsShallow (suc n) (table ms)
unfolding has_only
table_shallow n ms keys sorted only at_keys =
    let found = both (λ k d. get_member k ms ≡ Some d) (λ k d. is_sorted d ≡ true) ms (each_found ms sorted) (each_sorted ms sorted) in
    let each =
    weaker (λ k d. (list_any (bytes_eq k) keys ≡ true) × ((get_member k ms ≡ Some d) × (is_sorted d ≡ true))) (λ k d. IsShallow n d) ms
    (λ k d (one, (is, up)). at_key n ms keys k one at_keys d is up)
    (both (λ k d. list_any (bytes_eq k) keys ≡ true) (λ k d. (get_member k ms ≡ Some d) × (is_sorted d ≡ true)) ms (each_key (λ k. list_any (bytes_eq k) keys) ms only) found) in
    let (deep, plain) = members_shallow n ms each in
    (omega (arith, deep), plain)

items_shallow : {A : Type 0} (Is : Data → A → Type 0) (n : ℕ) → ((d : Data) (x : A) → is_sorted d ≡ true → Is d x → IsShallow n d)
    → (ds : Items) (xs : List A) → items_are_sorted ds ≡ true → AllZip Is (elements ds) xs → (items_depth ds ≤ n) × (items_are_plain ds ≡ true)
items_shallow Is n each no_items xs sorted zipped = (omega arith, refl)
items_shallow Is n each (item d ds) [] sorted zipped = absurd zipped
items_shallow Is n each (item d ds) (x ∷ xs) sorted (is, zipped) =
    let (up, up_behind) = and_parts (is_sorted d) (items_are_sorted ds) sorted in
    let (deep, plain) = each d x up is in
    let (deep_behind, plain_behind) = items_shallow Is n each ds xs up_behind zipped in
    (most_of (depth d) (items_depth ds) n deep deep_behind, and_from (is_plain d) (items_are_plain ds) plain plain_behind)

-- An array is shallow if each of its elements is.
pub array_shallow : {A : Type 0} (Is : Data → A → Type 0) (n : ℕ) → ((d : Data) (x : A) → is_sorted d ≡ true → Is d x → IsShallow n d)
    → (ds : Items) (xs : List A) → items_are_sorted ds ≡ true → AllZip Is (elements ds) xs → IsShallow (suc n) (array ds)
array_shallow Is n each ds xs sorted zipped =
    let (deep, plain) = items_shallow Is n each ds xs sorted zipped in
    (omega (arith, deep), plain)

-- An array of strings is shallow.
texts_shallow : (ds : Items) → list_all is_text (elements ds) ≡ true → (items_depth ds ≤ 0) × (items_are_plain ds ≡ true)
texts_shallow no_items all = (omega arith, refl)
texts_shallow (item (string s) ds) all = let (deep, plain) = texts_shallow ds all in (omega (arith, deep), plain)
texts_shallow (item _ ds) all = cc

pub text_array_shallow : (ds : Items) → list_all is_text (elements ds) ≡ true → IsShallow 1 (array ds)
text_array_shallow ds all = let (deep, plain) = texts_shallow ds all in (omega (arith, deep), plain)

-- ---- keys and kinds

-- If the kind of the key is an array, it is one of strings.
abbrev pub ListsTexts : Members → Key → Type 0
ListsTexts ms key = key.kind ≡ Array → stands_at Array key.name ms ≡ true → stands_at Texts key.name ms ≡ true

text_by : (d : Data) → is_some (as_str d) ≡ true → IsShallow 1 d
text_by (string s) is = (omega arith, refl)
text_by _ is = cc

word_by : (words : List (List ℕ)) (d : Data) → option_map_or (is_one_of words) (as_str d) false ≡ true → IsShallow 1 d
word_by words (string s) is = (omega arith, refl)
word_by words _ is = cc

integer_by : (d : Data) → is_some (as_integer d) ≡ true → IsShallow 1 d
integer_by (integer z) is = (omega arith, refl)
integer_by _ is = cc

number_by : (most : ℕ) (d : Data) → is_some (option_and_then (number_of most) (as_integer d)) ≡ true → IsShallow 1 d
number_by most (integer z) is = (omega arith, refl)
number_by most _ is = cc

boolean_by : (d : Data) → is_some (as_bool d) ≡ true → IsShallow 1 d
boolean_by (boolean b) is = (omega arith, refl)
boolean_by _ is = cc

texts_by : (d : Data) → option_map_or (list_all is_text) (elements_of d) false ≡ true → IsShallow 1 d
unfolding elements_of
texts_by (array ds) is = text_array_shallow ds is
texts_by _ is = cc

-- A value of its kind is shallow.
kind_shallow : (kind : Kind) (name : List ℕ) (ms : Members) → stands_at kind name ms ≡ true
    → (kind ≡ Array → stands_at Array name ms ≡ true → stands_at Texts name ms ≡ true) → (d : Data) → get_member name ms ≡ Some d → IsShallow 1 d
unfolding text_at integer_at number_at boolean_at list_at
kind_shallow Text name ms stands lists d is = text_by d (rw is at stands)
kind_shallow (OneOf words) name ms stands lists d is = word_by words d (rw is at stands)
kind_shallow Integer name ms stands lists d is = integer_by d (rw is at stands)
kind_shallow (Number most) name ms stands lists d is = number_by most d (rw is at stands)
kind_shallow Boolean name ms stands lists d is = boolean_by d (rw is at stands)
kind_shallow Array name ms stands lists d is = texts_by d (rw is at (lists refl stands))
kind_shallow Texts name ms stands lists d is = texts_by d (rw is at stands)

suits_shallow : (key : Key) (ms : Members) → suits_in ms key ≡ true → ListsTexts ms key → IsShallowAt 1 ms key.name
unfolding has_key
suits_shallow key ms suits lists d is sorted = kind_shallow key.kind key.name ms (rw is at suits) lists d is

each_suits : (keys : List Key) (ms : Members) → list_all (suits_in ms) keys ≡ true → AllByRecursion (ListsTexts ms) keys
    → AllByRecursion (IsShallowAt 1 ms) (map (λ (key : Key). key.name) keys)
each_suits [] ms suits lists = tt
each_suits (key ∷ keys) ms suits (texts, lists) =
    let (here, behind) = and_parts (suits_in ms key) (list_all (suits_in ms) keys) suits in
    (suits_shallow key ms here texts, each_suits keys ms behind lists)

-- A table is shallow if it has only these keys, the value of each is of its kind, and its arrays contain strings.
pub keys_shallow : (keys : List Key) (ms : Members) → members_are_sorted ms ≡ true → has_only_keys keys ms ≡ true → all_suit keys ms ≡ true
    → AllByRecursion (ListsTexts ms) keys → IsShallow 2 (table ms)
unfolding has_only_keys all_suit
keys_shallow keys ms sorted only suits lists =
    table_shallow 1 ms (map (λ (key : Key). key.name) keys) sorted only (each_suits keys ms suits lists)
