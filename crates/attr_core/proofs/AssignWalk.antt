-- The progress of an iteration over the assigns: the result of the remaining ones is that of all.
use Rattle.std.proofs.Common.{◌≡◌, ℕ, suc, ◌+◌, ◌<◌, ◌≤◌, List, [], ◌∷◌, ◌++◌, length, get_or, take, drop, Option, Some, None, option_map, is_some, sym, ap, ◌∙◌, refl, arith}
use Rattle.std.proofs.Math.ListN.{drop_of_length-le}
use Rattle.std.proofs.Math.Seq.{drop-cons, take-suc}
use Rattle.std.proofs.lemmas.List.{length-take-le}
use Rattle.std.specs.Prelude.{if◌then◌else◌, slice_set}
use Rattle.attr_core.specs.Assigns.{Given}
use Rattle.attr_core.specs.Forms.{bad_from}
use Rattle.attr_core.specs.laws.FormLaws.{length-set_said, set_all, set_said}

-- The assigns before this index specified attributes, and these are the attributes of the hosts after them.
pub record IsWalked {A : Type 0} (says : List Given → Given → Option A) (start : List A) (all : List Given) (place : ℕ) (xs : List A) : Type 0 where
  pub bad : bad_from says (take place all) (drop place all) ≡ bad_from says [] all
  pub set : set_all says (take place all) xs (drop place all) ≡ set_all says [] start all

-- An assign, and the remaining assigns with it and after it.
from_place : (all : List Given) (place : ℕ) (a : Given) → place < length all → a ≡ get_or all place a → drop place all ≡ a ∷ drop (place + 1) all
from_place all place a within is =
    let next : suc place ≡ place + 1 = omega arith in
    drop-cons all place a within ∙ ap (λ b. b ∷ drop (suc place) all) (sym is) ∙ ap (λ n. a ∷ drop n all) next

pub up_to : (all : List Given) (place : ℕ) (a : Given) → place < length all → a ≡ get_or all place a → take (place + 1) all ≡ take place all ++ a ∷ []
up_to all place a within is =
    let next : place + 1 ≡ suc place = omega arith in
    ap (λ n. take n all) next ∙ take-suc all place a within ∙ ap (λ b. take place all ++ b ∷ []) (sym is)

bad_on : {A : Type 0} (o : Option A) (xs ys : List A) (host n : ℕ) (later : Option ℕ) → option_map (slice_set xs host) o ≡ Some ys
    → later ≡ (if is_some o then later else Some n)
bad_on None xs ys host n later is = cc
bad_on (Some x) xs ys host n later is = refl

set_on : {A : Type 0} (o : Option A) (xs ys : List A) (host : ℕ) → option_map (slice_set xs host) o ≡ Some ys → ys ≡ set_said xs host o
set_on None xs ys host is = cc
set_on (Some x) xs ys host is = cc

bad_off : {A : Type 0} (o : Option A) (xs : List A) (host n : ℕ) (later : Option ℕ) → option_map (slice_set xs host) o ≡ None
    → (if is_some o then later else Some n) ≡ Some n
bad_off None xs host n later is = refl
bad_off (Some x) xs host n later is = cc

pub length_on : {A : Type 0} (o : Option A) (xs ys : List A) (host : ℕ) → option_map (slice_set xs host) o ≡ Some ys → length ys ≡ length xs
length_on o xs ys host is = ap length (set_on o xs ys host is) ∙ length-set_said xs host o

-- No assign was processed.
pub walked_none : {A : Type 0} (says : List Given → Given → Option A) (start : List A) (all : List Given) (xs : List A) → xs ≡ start
    → IsWalked says start all 0 xs
walked_none says start all xs is = record { bad = refl; set = ap (λ ys. set_all says [] ys all) is }

-- The assign at the index specifies an attribute.
pub walked_on : {A : Type 0} (says : List Given → Given → Option A) (start : List A) (all : List Given) (place : ℕ) (xs ys : List A) (a : Given)
    → IsWalked says start all place xs → place < length all → a ≡ get_or all place a
    → option_map (slice_set xs a.host) (says (take place all) a) ≡ Some ys → IsWalked says start all (place + 1) ys
walked_on says start all place xs ys a walked within is said =
    let more = up_to all place a within is in
    let rest = from_place all place a within is in
    record {
      bad = ap (λ earlier. bad_from says earlier (drop (place + 1) all)) more
          ∙ bad_on (says (take place all) a) xs ys a.host (length (take place all)) (bad_from says (take place all ++ a ∷ []) (drop (place + 1) all)) said
          ∙ ap (bad_from says (take place all)) (sym rest) ∙ walked.bad;
      set = ap (λ earlier. set_all says earlier ys (drop (place + 1) all)) more
          ∙ ap (λ zs. set_all says (take place all ++ a ∷ []) zs (drop (place + 1) all)) (set_on (says (take place all) a) xs ys a.host said)
          ∙ ap (set_all says (take place all) xs) (sym rest) ∙ walked.set;
    }

-- It specifies none.
pub walked_to : {A : Type 0} (says : List Given → Given → Option A) (start : List A) (all : List Given) (place : ℕ) (xs : List A) (a : Given)
    → IsWalked says start all place xs → place < length all → a ≡ get_or all place a
    → option_map (slice_set xs a.host) (says (take place all) a) ≡ None → bad_from says [] all ≡ Some place
walked_to says start all place xs a walked within is said =
    let here : length (take place all) ≡ place = length-take-le place all (omega arith) in
    sym walked.bad ∙ ap (bad_from says (take place all)) (from_place all place a within is)
    ∙ bad_off (says (take place all) a) xs a.host (length (take place all)) (bad_from says (take place all ++ a ∷ []) (drop (place + 1) all)) said
    ∙ ap Some here

-- No assign remains.
pub walked_all : {A : Type 0} (says : List Given → Given → Option A) (start : List A) (all : List Given) (place : ℕ) (xs : List A)
    → IsWalked says start all place xs → length all ≤ place → (bad_from says [] all ≡ None) × (xs ≡ set_all says [] start all)
walked_all says start all place xs walked over =
    let none : drop place all ≡ [] = drop_of_length-le all over in
    (sym walked.bad ∙ ap (bad_from says (take place all)) none, ap (set_all says (take place all) xs) (sym none) ∙ walked.set)
