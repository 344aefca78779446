-- Lemmas on names: a host with a name is one of the hosts, and two names of one host are equal.
use Rattle.std.proofs.Common.{◌≡◌, ℕ, suc, ◌+◌, ◌<◌, ◌≤◌, Bool, true, false, List, [], ◌∷◌, length, Option, Some, refl, sym, ◌∙◌, arith}
use Rattle.std.proofs.lemmas.Slice.Eq.{bytes_eq-Decides}
use Rattle.std.specs.List.{position_from}
use Rattle.std.specs.Prelude.{if◌then◌else◌}
use Rattle.std.specs.Str.{bytes_eq}
use Rattle.host_net.specs.Host.{Host, host_named}

found_below : (b : Bool) (n k m : ℕ) (o : Option ℕ) → (if b then Some n else o) ≡ Some k → n < m → (o ≡ Some k → k < m) → k < m
found_below true n k m o is below later = let same : n ≡ k = cc in omega arith
found_below false n k m o is below later = later is

pub position_within : {A : Type 0} (p : A → Bool) (n k : ℕ) (xs : List A) → position_from p n xs ≡ Some k → k < n + length xs
position_within p n k [] is = cc
position_within p n k (x ∷ xs) is =
    found_below (p x) n k (n + suc (length xs)) (position_from p (n + 1) xs) is (omega arith) (λ later. omega (arith, position_within p (n + 1) k xs later))

-- A host with a name is one of the hosts.
pub host_named_within : (hosts : List Host) (name : List ℕ) (k : ℕ) → host_named hosts name ≡ Some k → k < length hosts
host_named_within hosts name k is = omega (arith, position_within (λ h. bytes_eq name h.name) 0 k hosts is)

position_after : {A : Type 0} (p : A → Bool) (n k : ℕ) (xs : List A) → position_from p n xs ≡ Some k → n ≤ k
position_after p n k [] is = cc
position_after p n k (x ∷ xs) is = at_least (p x) n k (position_from p (n + 1) xs) is (position_after p (n + 1) k xs)
  where
    at_least : (b : Bool) (n k : ℕ) (later : Option ℕ) → (if b then Some n else later) ≡ Some k → (later ≡ Some k → n + 1 ≤ k) → n ≤ k
    at_least true n k later is behind = let same : n ≡ k = cc in omega arith
    at_least false n k later is behind = omega (arith, behind is)

one_by : (p q : Bool) (a b name : List ℕ) (n k : ℕ) (later_a later_b : Option ℕ) → bytes_eq a name ≡ p → bytes_eq b name ≡ q
    → (if p then Some n else later_a) ≡ Some k → (if q then Some n else later_b) ≡ Some k
    → (later_a ≡ Some k → n + 1 ≤ k) → (later_b ≡ Some k → n + 1 ≤ k) → (later_a ≡ Some k → later_b ≡ Some k → a ≡ b) → a ≡ b
one_by true true a b name n k later_a later_b is_a is_b at_a at_b after_a after_b behind = (bytes_eq-Decides a name).0 is_a ∙ sym ((bytes_eq-Decides b name).0 is_b)
one_by true false a b name n k later_a later_b is_a is_b at_a at_b after_a after_b behind =
    let same : n ≡ k = cc in
    absurd (omega (arith, after_b at_b))
one_by false true a b name n k later_a later_b is_a is_b at_a at_b after_a after_b behind =
    let same : n ≡ k = cc in
    absurd (omega (arith, after_a at_a))
one_by false false a b name n k later_a later_b is_a is_b at_a at_b after_a after_b behind = behind at_a at_b

-- Two names of one host are equal.
one_name_from : (n k : ℕ) (hosts : List Host) (a b : List ℕ) → position_from (λ h. bytes_eq a h.name) n hosts ≡ Some k → position_from (λ h. bytes_eq b h.name) n hosts ≡ Some k → a ≡ b
one_name_from n k [] a b at_a at_b = cc
one_name_from n k (h ∷ hosts) a b at_a at_b =
    one_by (bytes_eq a h.name) (bytes_eq b h.name) a b h.name n k _ _ refl refl at_a at_b
    (position_after (λ (g : Host). bytes_eq a g.name) (n + 1) k hosts) (position_after (λ (g : Host). bytes_eq b g.name) (n + 1) k hosts) (one_name_from (n + 1) k hosts a b)

pub one_name : (hosts : List Host) (a b : List ℕ) (k : ℕ) → host_named hosts a ≡ Some k → host_named hosts b ≡ Some k → a ≡ b
one_name hosts a b k = one_name_from 0 k hosts a b
