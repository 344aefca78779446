-- The result of the assigns of a declared template, assign by assign.
use Rattle.std.proofs.Common.{◌≡◌, ℕ, ◌<◌, ◌+◌, Bool, true, false, List, [], ◌∷◌, ◌++◌, length, map, replicate, Option, Some, None, is_some, refl, sym, ap, ◌∙◌, arith}
use Rattle.std.specs.List.{position_from}
use Rattle.std.specs.Prelude.{if◌then◌else◌, IfSome}
use Rattle.host_net.specs.Host.{Host}
use Rattle.inv_any.specs.declared.any_inv.AnyInv.TheVariants as any
use Rattle.attr_core.specs.Assigns.{Given}
use Rattle.attr_core.specs.inner.Bad.{bad_alone, first_failing}
use Rattle.attr_core.specs.OwnTables.{Declared, table_form}
use Rattle.attr_core.specs.inner.OwnTablesWalk.{kind_of_assign, kinds_after}
use Rattle.attr_core.specs.laws.FormLaws.{set_all, set_all_assigned, set_said}
use Rattle.attr_core.specs.Forms.{assigned, attributes_in, bad_assign, invariant_by, says}
use Rattle.attr_core.specs.inner.Walks.{same_everywhere}

says_kind : (d : Declared) (hosts : List Host) (earlier : List Given) (a : Given) → says (table_form d) hosts earlier a ≡ kind_of_assign d.words a.table
unfolding kind_of_assign
says_kind d hosts earlier a = refl

says_is : (d : Declared) (hosts : List Host) → says (table_form d) hosts ≡ (λ earlier a. kind_of_assign d.words a.table)
says_is d hosts = λ i earlier a. says_kind d hosts earlier a i

-- The first bad assign is the first that specifies no kind.
pub bad_kinds : (d : Declared) (hosts : List Host) (assigns : List Given)
    → bad_assign (table_form d) hosts assigns ≡ first_failing (λ a. is_some (kind_of_assign d.words a.table)) 0 assigns
bad_kinds d hosts assigns =
    bad_alone (says (table_form d) hosts) (λ earlier a. says_kind d hosts earlier a ∙ sym (says_kind d hosts [] a)) 0 [] assigns refl
    ∙ ap (λ (test : Given → Bool). first_failing test 0 assigns) (λ i a. is_some (says_kind d hosts [] a i))

after_all : (words : List (List ℕ)) (earlier : List Given) (xs : List ℕ) (rest : List Given)
    → kinds_after words xs rest ≡ set_all (λ before a. kind_of_assign words a.table) earlier xs rest
after_all words earlier xs [] = refl
after_all words earlier xs (a ∷ rest) = after_all words (earlier ++ a ∷ []) (set_said xs a.host (kind_of_assign words a.table)) rest

-- The invariant of the kinds after all assigns.
pub made_of_kinds : (d : Declared) (hosts : List Host) (assigns : List Given)
    → any.Table (record { table = d.table; hosts = kinds_after d.words (replicate (length hosts) d.table.default) assigns })
    ≡ invariant_by (table_form d) hosts assigns
made_of_kinds d hosts assigns =
    let said = λ (before : List Given) (a : Given). kind_of_assign d.words a.table in
    let kinds : kinds_after d.words (replicate (length hosts) d.table.default) assigns ≡ attributes_in (table_form d) hosts assigns =
    after_all d.words [] (replicate (length hosts) d.table.default) assigns
    ∙ ap (λ xs. set_all said [] xs assigns) (same_everywhere d.table.default (length hosts))
    ∙ set_all_assigned said (λ host. d.table.default) (length hosts) assigns
    ∙ ap (λ (f : List Given → Given → Option ℕ). assigned f (λ host. d.table.default) (length hosts) assigns) (sym (says_is d hosts)) in
    λ i. any.Table (record { table = d.table; hosts = kinds i })

-- An index that is found is an index of the list.
found_by : (b : Bool) (i n k : ℕ) (later : Option ℕ) → (later ≡ Some k → k < i + 1 + n) → (if b then Some i else later) ≡ Some k → k < i + (n + 1)
found_by true i n k later behind is = let same : i ≡ k = cc in omega (arith, same)
found_by false i n k later behind is = omega (arith, behind is)

pub found_within : {A : Type 0} (test : A → Bool) (i : ℕ) (xs : List A) (k : ℕ) → position_from test i xs ≡ Some k → k < i + length xs
found_within test i [] k is = cc
found_within test i (x ∷ xs) k is =
    let below : k < i + (length xs + 1) = found_by (test x) i (length xs) k (position_from test (i + 1) xs) (found_within test (i + 1) xs k) is in
    omega (arith, below)

pub position_from-map : {A B : Type 0} (test : B → Bool) (seen : A → B) (i : ℕ) (xs : List A)
    → position_from (λ x. test (seen x)) i xs ≡ position_from test i (map seen xs)
position_from-map test seen i [] = refl
position_from-map test seen i (x ∷ xs) = ap (λ later. if test (seen x) then Some i else later) (position_from-map test seen (i + 1) xs)

pub some_within : {A : Type 0} (test : A → Bool) (xs : List A) (o : Option ℕ) → o ≡ position_from test 0 xs → IfSome o (λ k. k < length xs)
some_within test xs None is = tt
some_within test xs (Some k) is = let below : k < 0 + length xs = found_within test 0 xs k (sym is) in omega (arith, below)
