-- The addresses up to which the ranges before an address, and those after it, are the same.
use Rattle.std.proofs.Common.{◌≡◌, ℕ, zero, suc, ◌≤◌, ◌<◌, true, nat_le, nat_lt, List, [], ◌∷◌, drop, slice_get, Some, None, refl, ap, arith}
use Rattle.std.specs.List.{list_all}
use Rattle.std.proofs.lemmas.Bool.{and_from, and_parts}
use Rattle.std.proofs.lemmas.Bool.Decides.{nat_tests}
use Rattle.std.proofs.lemmas.Option.{same_Some}
use Rattle.host_net.specs.inner.Ranges.{is_ordered}
use Rattle.host_net.specs.declared.ranges.Range.{Range}
use Rattle.host_net.proofs.RangesLemmas.{first_of}

pub before_more : (rs : List Range) (addr a : ℕ) → addr ≤ a → list_all (λ s. nat_le s.first addr) rs ≡ true → list_all (λ s. nat_le s.first a) rs ≡ true
before_more [] addr a more h = refl
before_more (r ∷ rs) addr a more h =
    let (here, later) = and_parts (nat_le r.first addr) (list_all (λ (s : Range). nat_le s.first addr) rs) h in
    let own : nat_le r.first a ≡ true = grind (arith, nat_tests) in
    and_from (nat_le r.first a) (list_all (λ (s : Range). nat_le s.first a) rs) own (before_more rs addr a more later)

pub behind_less : (rs : List Range) (a b : ℕ) → a ≤ b → list_all (λ s. nat_lt b s.first) rs ≡ true → list_all (λ s. nat_lt a s.first) rs ≡ true
behind_less [] a b less h = refl
behind_less (r ∷ rs) a b less h =
    let (here, later) = and_parts (nat_lt b r.first) (list_all (λ (s : Range). nat_lt b s.first) rs) h in
    let own : nat_lt a r.first ≡ true = grind (arith, nat_tests) in
    and_from (nat_lt a r.first) (list_all (λ (s : Range). nat_lt a s.first) rs) own (behind_less rs a b less later)

-- An address before the range at an index is before all ranges after it.
pub behind_at : (rs : List Range) (i a : ℕ) (next : Range) → is_ordered rs ≡ true → slice_get rs i ≡ Some next → a < next.first
    → list_all (λ r. nat_lt a r.first) (drop i rs) ≡ true
behind_at [] i a next h there less = cc
behind_at (r ∷ rs) zero a next h there less =
    let is = first_of r rs h in
    let same : r.first ≡ next.first = ap (λ (s : Range). s.first) (same_Some r next there) in
    let some = is.some in
    let own : nat_lt a r.first ≡ true = grind (arith, nat_tests) in
    let far : a ≤ r.last = grind (arith, nat_tests) in
    and_from (nat_lt a r.first) (list_all (λ (s : Range). nat_lt a s.first) rs) own (behind_less rs a r.last far is.before)
behind_at (r ∷ rs) (suc i) a next h there less = behind_at rs i a next (first_of r rs h).behind there less

pub none_at : (rs : List Range) (i a : ℕ) → slice_get rs i ≡ None → list_all (λ r. nat_lt a r.first) (drop i rs) ≡ true
none_at [] zero a none = refl
none_at [] (suc i) a none = refl
none_at (r ∷ rs) zero a none = cc
none_at (r ∷ rs) (suc i) a none = none_at rs i a none

-- The range at an index begins after an address that is before all ranges from there on.
pub next_behind : (rs : List Range) (i a : ℕ) (next : Range) → slice_get rs i ≡ Some next → list_all (λ r. nat_lt a r.first) (drop i rs) ≡ true
    → a < next.first
next_behind [] i a next there behind = cc
next_behind (r ∷ rs) zero a next there behind =
    let (here, later) = and_parts (nat_lt a r.first) (list_all (λ (s : Range). nat_lt a s.first) rs) behind in
    let same : r.first ≡ next.first = ap (λ (s : Range). s.first) (same_Some r next there) in
    grind (arith, nat_tests)
next_behind (r ∷ rs) (suc i) a next there behind = next_behind rs i a next there behind
