-- The list of every flow between n hosts is a set, and it is the only set with every flow.
use Rattle.std.proofs.Common.{refl, ◌≡◌, ◌≢◌, ℕ, zero, suc, sym, ◌==◌, ◌<◌, ◌+◌, ◌≤◌, Bool, true, false, not, ◌&&◌, ◌||◌, List, [], ◌∷◌, ◌++◌, ◌∙◌, arith}
use Rattle.std.proofs.lemmas.Bool.Decides.{nat_tests}
use Rattle.std.specs.List.{flat_map, range_with_len}
use Rattle.std.specs.Prelude.{IsTrue, if◌then◌else◌, nat_lt, nat_le}
use Rattle.flow_set.specs.EveryFlow.{every_flow, flow_or_none}
use Rattle.flow_set.specs.declared.flow.Flow.{Flow}
use Rattle.flow_set.specs.Flow.{before, same_flow, IsFlow}
use Rattle.flow_set.specs.FlowSet.{has, IsFull, IsOrdered}
use Rattle.flow_set.specs.inner.FlowSetView.{IsFlowSet}
use Rattle.flow_set.specs.laws.FlowLaws.{IsOrdered-append, has-append}
use Rattle.flow_set.proofs.SubsetLaws.{full_is_one}

-- The flows from one host to the m hosts from k on, and the flows from the m hosts from k on to all n hosts.
abbrev row : ℕ → ℕ → ℕ → List Flow
row i k m = flat_map (flow_or_none i) (range_with_len k m)

abbrev rows : ℕ → ℕ → ℕ → List Flow
rows n k m = flat_map (λ i. row i 0 n) (range_with_len k m)

-- The members of these lists.
abbrev in_row : ℕ → ℕ → ℕ → Flow → Bool
in_row i k m f = (f.from == i) && ((nat_le k f.to && nat_lt f.to (k + m)) && not (f.from == f.to))

abbrev in_rows : ℕ → ℕ → ℕ → Flow → Bool
in_rows n k m f = (nat_le k f.from && nat_lt f.from (k + m)) && (nat_lt f.to n && not (f.from == f.to))

none_in_row : (i k : ℕ) (f : Flow) → false ≡ in_row i k 0 f
none_in_row i k f = grind (arith, nat_tests)

one_in_row : (i k m : ℕ) (f : Flow) → (i == k) ≡ false
    → ((same_flow (record { from = i; to = k }) f || false) || in_row i (k + 1) m f) ≡ in_row i k (suc m) f
one_in_row i k m f other = grind (arith, nat_tests)

itself_in_row : (i k m : ℕ) (f : Flow) → (i == k) ≡ true → in_row i (k + 1) m f ≡ in_row i k (suc m) f
itself_in_row i k m f itself = grind (arith, nat_tests)

has_step : (i k m : ℕ) (f : Flow) (rest : List Flow) (b : Bool) → (i == k) ≡ b → has rest f ≡ in_row i (k + 1) m f
    → has ((if b then [] else (record { from = i; to = k } ∷ [])) ++ rest) f ≡ in_row i k (suc m) f
has_step i k m f rest true is after = after ∙ itself_in_row i k m f is
has_step i k m f rest false is after = has-append (record { from = i; to = k } ∷ []) rest f ∙ rw after (one_in_row i k m f is)

has-row : (i k m : ℕ) (f : Flow) → has (row i k m) f ≡ in_row i k m f
has-row i k zero f = none_in_row i k f
has-row i k (suc m) f = has_step i k m f (row i (k + 1) m) (i == k) refl (has-row i (k + 1) m f)

none_in_rows : (n k : ℕ) (f : Flow) → false ≡ in_rows n k 0 f
none_in_rows n k f = grind (arith, nat_tests)

one_in_rows : (n k m : ℕ) (f : Flow) → (in_row k 0 n f || in_rows n (k + 1) m f) ≡ in_rows n k (suc m) f
one_in_rows n k m f = grind (arith, nat_tests)

has-rows : (n k m : ℕ) (f : Flow) → has (rows n k m) f ≡ in_rows n k m f
has-rows n k zero f = none_in_rows n k f
has-rows n k (suc m) f = has-append (row k 0 n) (rows n (k + 1) m) f ∙ rw (has-row k 0 n f, has-rows n (k + 1) m f) (one_in_rows n k m f)

ordered_step : (f : Flow) (rest : List Flow) (b : Bool) → IsOrdered rest → ((g : Flow) → IsTrue (has rest g) → IsTrue (before f g))
    → IsOrdered ((if b then [] else (f ∷ [])) ++ rest)
ordered_step f rest true after apart = after
ordered_step f rest false after apart = (apart, after)

before_row : (i k m : ℕ) (g : Flow) → in_row i (k + 1) m g ≡ true → before (record { from = i; to = k }) g ≡ true
before_row i k m g later = grind (arith, nat_tests)

IsOrdered-row : (i k m : ℕ) → IsOrdered (row i k m)
IsOrdered-row i k zero = tt
IsOrdered-row i k (suc m) =
    ordered_step (record { from = i; to = k }) (row i (k + 1) m) (i == k) (IsOrdered-row i (k + 1) m)
    (λ g h. before_row i k m g (sym (has-row i (k + 1) m g) ∙ h))

before_rows : (n k m : ℕ) (f g : Flow) → in_row k 0 n f ≡ true → in_rows n (k + 1) m g ≡ true → before f g ≡ true
before_rows n k m f g here later = grind (arith, nat_tests)

IsOrdered-rows : (n k m : ℕ) → IsOrdered (rows n k m)
IsOrdered-rows n k zero = tt
IsOrdered-rows n k (suc m) =
    IsOrdered-append (row k 0 n) (rows n (k + 1) m) (IsOrdered-row k 0 n) (IsOrdered-rows n (k + 1) m) (λ f g here later.
    before_rows n k m f g (sym (has-row k 0 n f) ∙ here) (sym (has-rows n (k + 1) m g) ∙ later))

starts_below : (n : ℕ) (f : Flow) → in_rows n 0 n f ≡ true → f.from < n
starts_below n f listed = grind (arith, nat_tests)

ends_below : (n : ℕ) (f : Flow) → in_rows n 0 n f ≡ true → f.to < n
ends_below n f listed = grind (arith, nat_tests)

ends_elsewhere : (n : ℕ) (f : Flow) → in_rows n 0 n f ≡ true → f.from ≢ f.to
ends_elsewhere n f listed = grind (arith, nat_tests)

is_flow : (n : ℕ) (f : Flow) → in_rows n 0 n f ≡ true → IsFlow n f
is_flow n f listed = (starts_below n f listed, ends_below n f listed, ends_elsewhere n f listed)

is_listed : (n : ℕ) (f : Flow) → IsFlow n f → in_rows n 0 n f ≡ true
is_listed n f flow = listed n f.from f.to flow.0 flow.1 flow.2
  where
    listed : (n from to : ℕ) → from < n → to < n → from ≢ to → in_rows n 0 n (record { from = from; to = to }) ≡ true
    listed n from to starts ends differ = grind (arith, nat_tests)

pub IsFull-every_flow : (n : ℕ) → IsFull n (every_flow n)
unfolding every_flow
IsFull-every_flow n f = (λ h. is_flow n f (sym (has-rows n 0 n f) ∙ h), λ h. has-rows n 0 n f ∙ is_listed n f h)

pub IsFlowSet-every_flow : (n : ℕ) → n ≤ 256 → IsFlowSet n (every_flow n)
unfolding every_flow
IsFlowSet-every_flow n small = record { small = small; ordered = IsOrdered-rows n 0 n; flows = λ f h. (IsFull-every_flow n f).0 h }

-- A set that has every flow is equal to that list.
pub every_flow_is : (n : ℕ) (fs : List Flow) → IsFlowSet n fs → IsFull n fs → fs ≡ every_flow n
every_flow_is n fs set full = full_is_one n fs (every_flow n) set (IsFlowSet-every_flow n set.small) full (IsFull-every_flow n)
