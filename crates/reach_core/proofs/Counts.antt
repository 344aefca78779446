-- The number of other hosts in a row, compared with lists of distinct hosts.
use Rattle.std.proofs.Common.{◌≡◌, ℕ, zero, suc, ◌-◌, ◌<◌, ◌≤◌, nat_cmp, ◌↔◌, inl, inr, List, [], ◌∷◌, length, refl, sym, ◌∙◌, ap, arith}
use Rattle.std.specs.Prelude.{IsTrue, ◌≢◌, All, AllPairs}
use Rattle.std.specs.FinSet as set
use Rattle.std.specs.List.{list_any}
use Rattle.std.specs.Ordering.{eq_by_cmp}
use Rattle.std.specs.Cmp.{nat_cmp_total, unsigned_tied}
use Rattle.std.proofs.lemmas.Bool.{and_parts, and_from, or_left, eqb-false, eq-eqb, ne_eqb, not-true, not_from_false, cases_eq, cond-true, false≢true}
use Rattle.std.proofs.lemmas.List.Elements.{All-nil, All-cons, All-head, All-tail}
use Rattle.flow_set.specs.declared.flow.Flow.{Flow}
use Rattle.flow_set.specs.HostSet.{HostNumbers}
use Rattle.reach_core.specs.Walks.{Reaches}
use Rattle.reach_core.specs.inner.Counting.{ReachesExactly}
use Rattle.flow_set.specs.laws.HostSetLaws.{hosts_ext, contains-remove}

-- ---- members, one by one

has_some : (s : HostNumbers) (q : ℕ) → IsTrue (set.contains s q) → 0 < set.len s
has_some s q shown =
    elim (cases_eq (set.len s) 0) [
      | inl none ↦ absurd (false≢true (sym (ap (λ t. set.contains t q) (set.empty_of_len s none) ∙ set.contains-empty nat_cmp q) ∙ shown))
      | inr some ↦ omega arith
    ]

len-without : (s : HostNumbers) (q : ℕ) → IsTrue (set.contains s q) → set.len s ≡ suc (set.len (set.remove s q))
len-without s q shown =
    let fewer : set.len (set.remove s q) ≡ set.len s - 1 = set.len-remove nat_cmp_total s q ∙ cond-true _ _ _ shown in
    let some : 0 < set.len s = has_some s q shown in
    omega arith

stays_without : (s : HostNumbers) (h q : ℕ) → q ≢ h → IsTrue (set.contains s q) → IsTrue (set.contains (set.remove s h) q)
stays_without s h q other shown = contains-remove s h q ∙ and_from _ _ (not_from_false _ (ne_eqb q h other)) shown

was_with : (s : HostNumbers) (h q : ℕ) → IsTrue (set.contains (set.remove s h) q) → (q ≢ h) × IsTrue (set.contains s q)
was_with s h q shown =
    let parts = and_parts _ _ (sym (contains-remove s h q) ∙ shown) in
    (eqb-false q h (not-true _ parts.0), parts.1)

-- A nonempty set has a host.
some_host : (s : HostNumbers) (n : ℕ) (hosts : List ℕ) → set.items s ≡ hosts → set.len s ≡ suc n → (h : ℕ) × IsTrue (set.contains s h)
some_host s n [] items counted =
    let none : s ≡ set.empty =
    hosts_ext s set.empty (λ q. set.contains-items s q ∙ ap (list_any (eq_by_cmp nat_cmp q)) items ∙ sym (set.contains-empty nat_cmp q)) in
    let zero_len : set.len s ≡ 0 = ap (λ t. set.len t) none ∙ set.len-empty nat_cmp in
    absurd (omega arith)
some_host s n (h ∷ hosts) items counted =
    (h, set.contains-items s h ∙ ap (list_any (eq_by_cmp nat_cmp h)) items ∙ or_left _ _ (unsigned_tied h h ∙ eq-eqb h h refl))

-- ---- lists of distinct hosts

pairs_cons : (h : ℕ) (hosts : List ℕ) → All (λ j. j ≢ h) hosts → AllPairs (λ a b. a ≢ b) hosts → AllPairs (λ a b. a ≢ b) (h ∷ hosts)
pairs_cons h hosts others pairs zero zero d before below = absurd (omega arith)
pairs_cons h hosts others pairs zero (suc j) d before below = λ same. others j d (omega arith) (sym same)
pairs_cons h hosts others pairs (suc i) zero d before below = absurd (omega arith)
pairs_cons h hosts others pairs (suc i) (suc j) d before below = pairs i j d (omega arith) (omega arith)

pairs_tail : (h : ℕ) (hosts : List ℕ) → AllPairs (λ a b. a ≢ b) (h ∷ hosts) → AllPairs (λ a b. a ≢ b) hosts
pairs_tail h hosts pairs i j d before below = pairs (suc i) (suc j) d (omega arith) (omega arith)

pairs_head : (h : ℕ) (hosts : List ℕ) → AllPairs (λ a b. a ≢ b) (h ∷ hosts) → All (λ j. j ≢ h) hosts
pairs_head h hosts pairs k d below = λ same. pairs 0 (suc k) d (omega arith) (omega arith) (sym same)

-- A list of distinct hosts of a set is at most as long as the set is large.
pub length-different : (hosts : List ℕ) (s : HostNumbers) → AllPairs (λ a b. a ≢ b) hosts
    → All (λ j. IsTrue (set.contains s j)) hosts → length hosts ≤ set.len s
length-different [] s different within = omega arith
length-different (h ∷ hosts) s different within =
    let shown : IsTrue (set.contains s h) = All-head (λ j. IsTrue (set.contains s j)) h hosts within in
    let others = pairs_head h hosts different in
    let rest = All-tail (λ j. IsTrue (set.contains s j)) h hosts within in
    let fewer =
    length-different hosts (set.remove s h) (pairs_tail h hosts different)
    (λ k d below. stays_without s h _ (others k d below) (rest k d below)) in
    let one_more = len-without s h shown in
    omega arith

-- A list of all the hosts of a set.
pub record Lists (s : HostNumbers) (n : ℕ) : Type 0 where
  pub hosts : List ℕ
  pub different : AllPairs (λ a b. a ≢ b) hosts
  pub within : All (λ j. IsTrue (set.contains s j)) hosts
  pub counted : length hosts ≡ n

pub lists_all : (n : ℕ) (s : HostNumbers) → set.len s ≡ n → Lists s n
lists_all zero s counted = record { hosts = []; different = λ i j d before below. absurd (omega arith); within = All-nil _; counted = refl }
lists_all (suc n) s counted =
    let first = some_host s n (set.items s) refl counted in
    let fewer : set.len (set.remove s first.0) ≡ n = let one_more = len-without s first.0 first.1 in omega arith in
    let rest = lists_all n (set.remove s first.0) fewer in
    record {
      hosts = first.0 ∷ rest.hosts;
      different = pairs_cons first.0 rest.hosts (λ k d below. (was_with s first.0 _ (rest.within k d below)).0) rest.different;
      within = All-cons (λ j. IsTrue (set.contains s j)) first.0 rest.hosts first.1 (λ k d below. (was_with s first.0 _ (rest.within k d below)).1);
      counted = ap suc rest.counted;
    }

-- ---- the other hosts that a host reaches

pub reaches_exactly : (e : List Flow) (i : ℕ) (row : HostNumbers) → ((j : ℕ) → IsTrue (set.contains row j) ↔ Reaches e i j)
    → ReachesExactly e i (set.len (set.remove row i))
reaches_exactly e i row shows =
    let all = lists_all (set.len (set.remove row i)) (set.remove row i) refl in
    record {
      hosts = all.hosts;
      reached = record {
        different = all.different;
        others = λ k d below. (was_with row i _ (all.within k d below)).0;
        reached = λ k d below. (shows _).0 (was_with row i _ (all.within k d below)).1;
      };
      counted = all.counted;
      most = λ hosts are. length-different hosts (set.remove row i) are.different (λ k d below. stays_without row i _ (are.others k d below) ((shows _).1 (are.reached k d below)));
    }
