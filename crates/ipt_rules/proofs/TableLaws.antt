-- Lemmas on tables: chains remain a table, and remain counted, during their construction.
use Rattle.std.proofs.Common.{◌≡◌, ℕ, zero, suc, ◌+◌, ◌<◌, ◌≤◌, inl, inr, ◌∙◌, sym, ap, refl, subst, Bool, true, false, cond, ◌&&◌, IsTrue, List, [], ◌∷◌, ◌++◌, Option, Some, None, length, arith}
use Rattle.std.specs.Prelude.{IsSome, IsNone, slice_get, bytes_eq}
use Rattle.std.specs.List.{list_all, position_from}
use Rattle.std.proofs.lemmas.Bool.{and_from, and_parts, cases_lt}
use Rattle.std.proofs.lemmas.List.Folds.{list_all-append}
use Rattle.std.proofs.lemmas.Slice.Eq.{bytes_eq-Decides}
use Rattle.ipt_rules.specs.declared.rule.Rule.{Rule}
use Rattle.ipt_rules.specs.declared.rule.Policy.{Policy}
use Rattle.ipt_rules.specs.Name.{is_user_name}
use Rattle.ipt_rules.specs.Chain.{Chain, changed_at, with_policy, with_rule, name_of, policy_of, number_of, user_chain}
use Rattle.ipt_rules.specs.inner.Addresses.{addresses_fit}
use Rattle.ipt_rules.specs.inner.RuleParts.{is_rule}
use Rattle.ipt_rules.specs.inner.ChainTable.{name_in, policy_in, IsTable, IsChainList}
use Rattle.ipt_rules.proofs.ChainLaws.{length-changed_at, length_added, length_with_policy, length_with_rule, rule_count_added, rule_count_with_policy, rule_count_with_rule}

-- A chain with a policy exists.
pub has_built_in : (xs : List Chain) (c : ℕ) → IsSome (policy_of xs c) → c < length xs
has_built_in [] c h = cc
has_built_in (x ∷ xs) zero h = omega arith
has_built_in (x ∷ xs) (suc c) h = omega (arith, has_built_in xs c h)

-- A change of one chain that preserves its name.
module _ (change : Chain → Chain) (keeps : (x : Chain) → (change x).name ≡ x.name) where
  name_kept : (xs : List Chain) (c d : ℕ) → name_of (changed_at xs c change) d ≡ name_of xs d
  name_kept [] c d = refl
  name_kept (x ∷ xs) zero zero = keeps x
  name_kept (x ∷ xs) zero (suc d) = refl
  name_kept (x ∷ xs) (suc c) zero = refl
  name_kept (x ∷ xs) (suc c) (suc d) = name_kept xs c d

  place_kept : (name : List ℕ) (i : ℕ) (xs : List Chain) (c : ℕ) → position_from (λ x. bytes_eq x.name name) i (changed_at xs c change) ≡ position_from (λ x. bytes_eq x.name name) i xs
  place_kept name i [] c = refl
  place_kept name i (x ∷ xs) zero =
      ap (λ (n : List ℕ). cond (bytes_eq n name) (Some i) (position_from (λ y. bytes_eq y.name name) (i + 1) xs)) (keeps x)
  place_kept name i (x ∷ xs) (suc c) =
      ap (λ (o : Option ℕ). cond (bytes_eq x.name name) (Some i) o) (place_kept name (i + 1) xs c)

  IsTable-changed : (xs : List Chain) (c : ℕ) → ((d : ℕ) → d < 3 → IsSome (policy_of xs d) → IsSome (policy_of (changed_at xs c change) d)) → ((d : ℕ) → 3 ≤ d → policy_of (changed_at xs c change) d ≡ policy_of xs d)
      → IsTable xs → IsTable (changed_at xs c change)
  IsTable-changed xs c built_in user table = record {
    input = name_kept xs c 0 ∙ table.input;
    forward = name_kept xs c 1 ∙ table.forward;
    output = name_kept xs c 2 ∙ table.output;
    built_in = λ d low. built_in d low (table.built_in d low);
    user = λ d high within.
        let old = table.user d high (there d within) in
        (subst (λ (n : List ℕ). IsTrue (is_user_name n)) (sym (name_kept xs c d)) old.0, user d high ∙ old.1);
    found = λ d within. place_kept (name_of (changed_at xs c change) d) 0 xs c ∙ ap (number_of xs) (name_kept xs c d) ∙ table.found d (there d within);
  }
    where
      there : (d : ℕ) → d < length (changed_at xs c change) → d < length xs
      there d within = omega (arith, length-changed_at xs c change)

policy_kept : (change : Chain → Chain) → ((x : Chain) → (change x).policy ≡ x.policy) → (xs : List Chain) (c d : ℕ) → policy_of (changed_at xs c change) d ≡ policy_of xs d
policy_kept change keeps [] c d = refl
policy_kept change keeps (x ∷ xs) zero zero = keeps x
policy_kept change keeps (x ∷ xs) zero (suc d) = refl
policy_kept change keeps (x ∷ xs) (suc c) zero = refl
policy_kept change keeps (x ∷ xs) (suc c) (suc d) = policy_kept change keeps xs c d

policy_behind : (change : Chain → Chain) (xs : List Chain) (c d : ℕ) → c < d → policy_of (changed_at xs c change) d ≡ policy_of xs d
policy_behind change [] c d behind = refl
policy_behind change (x ∷ xs) c zero behind = absurd (omega arith)
policy_behind change (x ∷ xs) zero (suc d) behind = refl
policy_behind change (x ∷ xs) (suc c) (suc d) behind = policy_behind change xs c d (omega arith)

policy_set : (policy : Policy) (xs : List Chain) (c d : ℕ) → IsSome (policy_of xs d) → IsSome (policy_of (changed_at xs c (λ x. record x { policy = Some policy })) d)
policy_set policy [] c d some = some
policy_set policy (x ∷ xs) zero zero some = refl
policy_set policy (x ∷ xs) zero (suc d) some = some
policy_set policy (x ∷ xs) (suc c) zero some = some
policy_set policy (x ∷ xs) (suc c) (suc d) some = policy_set policy xs c d some

IsTable-with_policy : (xs : List Chain) (c : ℕ) (policy : Policy) → c < 3 → IsTable xs → IsTable (with_policy xs c policy)
unfolding with_policy
IsTable-with_policy xs c policy low table =
    let change : Chain → Chain = λ x. record x { policy = Some policy } in
    IsTable-changed change (λ x. refl) xs c (λ d below some. policy_set policy xs c d some) (λ d high. policy_behind change xs c d (omega arith)) table

IsTable-with_rule : (xs : List Chain) (c : ℕ) (rule : Rule) → IsTable xs → IsTable (with_rule xs c rule)
unfolding with_rule
IsTable-with_rule xs c rule table =
    let change : Chain → Chain = λ x. record x { rules = x.rules ++ rule ∷ [] } in
    IsTable-changed change (λ x. refl) xs c
    (λ d low some. subst IsSome (sym (policy_kept change (λ x. refl) xs c d)) some)
    (λ d high. policy_kept change (λ x. refl) xs c d) table

-- One more chain at the end.
get_front : (xs ys : List Chain) (d : ℕ) → d < length xs → slice_get (xs ++ ys) d ≡ slice_get xs d
get_front [] ys d within = absurd (omega arith)
get_front (x ∷ xs) ys zero within = refl
get_front (x ∷ xs) ys (suc d) within = get_front xs ys d (omega arith)

get_last : (xs : List Chain) (x : Chain) → slice_get (xs ++ x ∷ []) (length xs) ≡ Some x
get_last [] x = refl
get_last (y ∷ xs) x = get_last xs x

found_front : (p : Chain → Bool) (i k : ℕ) (xs ys : List Chain) → position_from p i xs ≡ Some k → position_from p i (xs ++ ys) ≡ Some k
found_front p i k [] ys found = cc
found_front p i k (x ∷ xs) ys found = by_test (p x) (found_front p (i + 1) k xs ys) found
  where
    by_test : (b : Bool) → (position_from p (i + 1) xs ≡ Some k → position_from p (i + 1) (xs ++ ys) ≡ Some k)
        → cond b (Some i) (position_from p (i + 1) xs) ≡ Some k → cond b (Some i) (position_from p (i + 1) (xs ++ ys)) ≡ Some k
    by_test true later h = h
    by_test false later h = later h

found_last : (p : Chain → Bool) (i k : ℕ) (xs : List Chain) (x : Chain) → i + length xs ≡ k → position_from p i xs ≡ None → p x ≡ true → position_from p i (xs ++ x ∷ []) ≡ Some k
found_last p i k [] x place none is =
    let same : i ≡ k = omega (arith, place) in
    rw is (ap (λ (n : ℕ). Some n) same)
found_last p i k (y ∷ xs) x place none is = by_test (p y) (λ h. found_last p (i + 1) k xs x (omega (arith, place)) h is) none
  where
    by_test : (b : Bool) → (position_from p (i + 1) xs ≡ None → position_from p (i + 1) (xs ++ x ∷ []) ≡ Some k)
        → cond b (Some i) (position_from p (i + 1) xs) ≡ None → cond b (Some i) (position_from p (i + 1) (xs ++ x ∷ [])) ≡ Some k
    by_test true later h = cc
    by_test false later h = later h

none_is : (o : Option ℕ) → IsNone o → o ≡ None
none_is None h = refl
none_is (Some k) h = cc

IsTable-added : (xs : List Chain) (name : List ℕ) → IsTrue (is_user_name name) → IsNone (number_of xs name) → IsTable xs → IsTable (xs ++ user_chain name ∷ [])
IsTable-added xs name legal unused table = record {
  input = old_name 0 (omega (arith, three)) ∙ table.input;
  forward = old_name 1 (omega (arith, three)) ∙ table.forward;
  output = old_name 2 (omega (arith, three)) ∙ table.output;
  built_in = λ d low. subst IsSome (sym (ap policy_in (get_front xs (user_chain name ∷ []) d (omega (arith, low, three))))) (table.built_in d low);
  user = λ d high within. elim (cases_lt d (length xs)) [
    | inl old ↦
        let was = table.user d high old in
        (subst (λ (n : List ℕ). IsTrue (is_user_name n)) (sym (old_name d old)) was.0, ap policy_in (get_front xs (user_chain name ∷ []) d old) ∙ was.1)
    | inr new ↦
        let last = the_last d within new in
        (subst (λ (n : List ℕ). IsTrue (is_user_name n)) (sym (ap name_in last)) legal, ap policy_in last)
  ];
  found = λ d within. elim (cases_lt d (length xs)) [
    | inl old ↦ ap (number_of both) (old_name d old) ∙ found_front (λ x. bytes_eq x.name (name_of xs d)) 0 d xs (user_chain name ∷ []) (table.found d old)
    | inr new ↦
        ap (number_of both) (ap name_in (the_last d within new))
        ∙ found_last (λ x. bytes_eq x.name name) 0 d xs (user_chain name) (omega (arith, place d within new)) (none_is (number_of xs name) unused) ((bytes_eq-Decides name name).1 refl)
  ];
}
  where
    both : List Chain
    both = xs ++ user_chain name ∷ []

    three : 2 < length xs
    three = has_built_in xs 2 (table.built_in 2 (omega arith))

    old_name : (d : ℕ) → d < length xs → name_of both d ≡ name_of xs d
    old_name d old = ap name_in (get_front xs (user_chain name ∷ []) d old)

    place : (d : ℕ) → d < length both → length xs ≤ d → d ≡ length xs
    place d within new = omega (arith, length_added xs name)

    the_last : (d : ℕ) → d < length both → length xs ≤ d → slice_get both d ≡ Some (user_chain name)
    the_last d within new = ap (slice_get both) (place d within new) ∙ get_last xs (user_chain name)

-- A test of all chains still holds after a change that preserves it.
all_changed : (p : Chain → Bool) (xs : List Chain) (c : ℕ) (change : Chain → Chain) → ((x : Chain) → p x ≡ true → p (change x) ≡ true)
    → list_all p xs ≡ true → list_all p (changed_at xs c change) ≡ true
all_changed p [] c change keeps h = refl
all_changed p (x ∷ xs) zero change keeps h =
    let parts = and_parts (p x) (list_all p xs) h in
    and_from (p (change x)) (list_all p xs) (keeps x parts.0) parts.1
all_changed p (x ∷ xs) (suc c) change keeps h =
    let parts = and_parts (p x) (list_all p xs) h in
    and_from (p x) (list_all p (changed_at xs c change)) parts.0 (all_changed p xs c change keeps parts.1)

-- The meaning of a test of all rules.
abbrev AllRules : (Rule → Bool) → List Chain → Type 0
AllRules test xs = IsTrue (list_all (λ x. list_all test x.rules) xs)

AllRules-with_rule : (test : Rule → Bool) (xs : List Chain) (c : ℕ) (rule : Rule) → test rule ≡ true → AllRules test xs → AllRules test (with_rule xs c rule)
unfolding with_rule
AllRules-with_rule test xs c rule fit h = all_changed (λ x. list_all test x.rules) xs c (λ x. record x { rules = x.rules ++ rule ∷ [] })
    (λ x old. list_all-append test x.rules (rule ∷ []) ∙ and_from (list_all test x.rules) (test rule && true) old (and_from (test rule) true fit refl)) h

AllRules-with_policy : (test : Rule → Bool) (xs : List Chain) (c : ℕ) (policy : Policy) → AllRules test xs → AllRules test (with_policy xs c policy)
unfolding with_policy
AllRules-with_policy test xs c policy h = all_changed (λ x. list_all test x.rules) xs c (λ x. record x { policy = Some policy }) (λ x old. old) h

AllRules-added : (test : Rule → Bool) (xs : List Chain) (name : List ℕ) → AllRules test xs → AllRules test (xs ++ user_chain name ∷ [])
AllRules-added test xs name h =
    list_all-append (λ x. list_all test x.rules) xs (user_chain name ∷ []) ∙ and_from (list_all (λ x. list_all test x.rules) xs) true h refl

pub IsChainList-with_rule : (xs : List Chain) (n c : ℕ) (rule : Rule) → c < length xs → addresses_fit rule ≡ true → is_rule rule ≡ true → IsChainList xs n → IsChainList (with_rule xs c rule) (n + 1)
IsChainList-with_rule xs n c rule there fit part chains = record {
  table = IsTable-with_rule xs c rule chains.table;
  numbered = omega (arith, length_with_rule xs c rule, chains.numbered);
  counted = ap (λ m. m + 1) chains.counted ∙ sym (rule_count_with_rule xs c rule there);
  addresses = AllRules-with_rule addresses_fit xs c rule fit chains.addresses;
  parts = AllRules-with_rule is_rule xs c rule part chains.parts;
}

pub IsChainList-with_policy : (xs : List Chain) (n c : ℕ) (policy : Policy) → c < 3 → IsChainList xs n → IsChainList (with_policy xs c policy) n
IsChainList-with_policy xs n c policy low chains = record {
  table = IsTable-with_policy xs c policy low chains.table;
  numbered = omega (arith, length_with_policy xs c policy, chains.numbered);
  counted = chains.counted ∙ sym (rule_count_with_policy xs c policy);
  addresses = AllRules-with_policy addresses_fit xs c policy chains.addresses;
  parts = AllRules-with_policy is_rule xs c policy chains.parts;
}

pub IsChainList-added : (xs : List Chain) (n : ℕ) (name : List ℕ) → length xs < 65536 → IsTrue (is_user_name name) → IsNone (number_of xs name) → IsChainList xs n → IsChainList (xs ++ user_chain name ∷ []) n
IsChainList-added xs n name room legal unused chains = record {
  table = IsTable-added xs name legal unused chains.table;
  numbered = omega (arith, length_added xs name);
  counted = omega (arith, chains.counted, rule_count_added xs name);
  addresses = AllRules-added addresses_fit xs name chains.addresses;
  parts = AllRules-added is_rule xs name chains.parts;
}
