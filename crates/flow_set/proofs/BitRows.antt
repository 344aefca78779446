-- The flows of rows: their members, their order, and the effect of a change of a row.
use Rattle.std.proofs.Common.{◌≡◌, ◌≢◌, ℕ, zero, suc, ◌+◌, ◌<◌, ◌≤◌, Bool, true, false, not, ◌&&◌, ◌||◌, ◌==◌, cond, nat_eq, nat_lt, nat_cmp, List, [], ◌∷◌, length, replicate, refl, sym, ◌∙◌, ap, arith, inl, inr}
use Rattle.std.specs.Prelude.{IsTrue, slice_set}
use Rattle.std.specs.FinSet as set
use Rattle.std.proofs.lemmas.Bool.{cases_eq, cases_lt, and_parts, false≢true}
use Rattle.std.proofs.lemmas.Bool.Decides.{nat_tests}
use Rattle.std.proofs.lemmas.List.{get_or-set_same, get_or-set_other, get_or-replicate, length-replicate, length-set, get_or_read}
use Rattle.std.proofs.Common.{length-append, get_or}
use Rattle.flow_set.specs.declared.flow.Flow.{Flow}
use Rattle.flow_set.specs.Flow.{IsFlow, before, same_flow}
use Rattle.flow_set.specs.FlowSet.{has, IsOrdered, with_flow}
use Rattle.flow_set.specs.inner.FlowSetView.{IsFlowSet, without_flow}
use Rattle.flow_set.specs.laws.FlowLaws.{has_nothing, has-append, has-with_flow, has-without_flow, flows_ext, IsOrdered-append, IsOrdered-with_flow, IsOrdered-without_flow}
use Rattle.flow_set.specs.inner.BitRows.{marks, singleton_if, row_flows, rows_flows, flows_of, AreRows}
use Rattle.flow_set.specs.HostSet.{HostNumbers, hosts_below}
use Rattle.flow_set.specs.inner.HostSet.{row_of}
use Rattle.flow_set.specs.laws.HostSetLaws.{contains-insert, contains-remove, contains-hosts_below, hosts_ext, len_more}

-- ---- members

has-singleton_if : (b : Bool) (f g : Flow) → has (singleton_if b f) g ≡ (b && same_flow f g)
has-singleton_if true f g = or_false (same_flow f g)
  where
    or_false : (b : Bool) → (b || false) ≡ b
    or_false true = refl
    or_false false = refl
has-singleton_if false f g = refl

none_below : (a b : Bool) (m : ℕ) → false ≡ (a && (nat_lt m 0 && b))
none_below a b m = grind (arith, nat_tests)

row_step : (i n a b : ℕ) (c d : Bool) → (b ≡ n → c ≡ d)
    → ((nat_eq a i && (nat_lt b n && c)) || (d && ((i == a) && (n == b)))) ≡ (nat_eq a i && (nat_lt b (suc n) && c))
row_step i n a b c d same = grind (arith, nat_tests)

has-row_flows : (i : ℕ) (row : HostNumbers) (n : ℕ) (f : Flow)
    → has (row_flows i row n) f ≡ (nat_eq f.from i && (nat_lt f.to n && set.contains row f.to))
unfolding row_flows
has-row_flows i row zero f = none_below (nat_eq f.from i) (set.contains row f.to) f.to
has-row_flows i row (suc n) f =
    has-append (row_flows i row n) (singleton_if (set.contains row n) (record { from = i; to = n })) f
    ∙ (λ k. has-row_flows i row n f k || has-singleton_if (set.contains row n) (record { from = i; to = n }) f k)
    ∙ row_step i n f.from f.to (set.contains row f.to) (set.contains row n) (λ same. ap (set.contains row) same)

none_first : (b : Bool) (m : ℕ) → false ≡ (nat_lt m 0 && b)
none_first b m = grind (arith, nat_tests)

rows_step : (m a : ℕ) (c d : Bool) → (a ≡ m → d ≡ c) → ((nat_lt a m && c) || (nat_eq a m && d)) ≡ (nat_lt a (suc m) && c)
rows_step m a c d same = grind (arith, nat_tests)

has-rows_flows : (rows : List HostNumbers) (n m : ℕ) (f : Flow)
    → has (rows_flows rows n m) f ≡ (nat_lt f.from m && (nat_lt f.to n && marks rows f))
unfolding rows_flows
has-rows_flows rows n zero f = none_first (nat_lt f.to n && marks rows f) f.from
has-rows_flows rows n (suc m) f =
    has-append (rows_flows rows n m) (row_flows m (row_of rows m) n) f
    ∙ (λ k. has-rows_flows rows n m f k || has-row_flows m (row_of rows m) n f k)
    ∙ rows_step m f.from (nat_lt f.to n && marks rows f) (nat_lt f.to n && set.contains (row_of rows m) f.to)
    (λ same. ap (λ i. nat_lt f.to n && set.contains (row_of rows i) f.to) (sym same))

-- ---- in order

IsOrdered-singleton_if : (b : Bool) (f : Flow) → IsOrdered (singleton_if b f)
IsOrdered-singleton_if true f = (λ g there. has_nothing g there, tt)
IsOrdered-singleton_if false f = tt

row_order : (i n : ℕ) (f g : Flow) (c d : Bool) → IsTrue (nat_eq f.from i && (nat_lt f.to n && c))
    → IsTrue (d && ((i == g.from) && (n == g.to))) → IsTrue (before f g)
row_order i n f g c d p q = grind (arith, nat_tests)

IsOrdered-row_flows : (i : ℕ) (row : HostNumbers) (n : ℕ) → IsOrdered (row_flows i row n)
unfolding row_flows
IsOrdered-row_flows i row zero = tt
IsOrdered-row_flows i row (suc n) =
    IsOrdered-append (row_flows i row n) (singleton_if (set.contains row n) (record { from = i; to = n })) (IsOrdered-row_flows i row n)
    (IsOrdered-singleton_if _ _)
    (λ f g p q. row_order i n f g (set.contains row f.to) (set.contains row n) (sym (has-row_flows i row n f) ∙ p) (sym (has-singleton_if (set.contains row n) (record { from = i; to = n }) g) ∙ q))

rows_order : (m : ℕ) (f g : Flow) (c d : Bool) → IsTrue (nat_lt f.from m && c) → IsTrue (nat_eq g.from m && d) → IsTrue (before f g)
rows_order m f g c d p q = grind (arith, nat_tests)

pub IsOrdered-rows_flows : (rows : List HostNumbers) (n m : ℕ) → IsOrdered (rows_flows rows n m)
unfolding rows_flows
IsOrdered-rows_flows rows n zero = tt
IsOrdered-rows_flows rows n (suc m) =
    IsOrdered-append (rows_flows rows n m) (row_flows m (row_of rows m) n) (IsOrdered-rows_flows rows n m)
    (IsOrdered-row_flows m (row_of rows m) n)
    (λ f g p q. rows_order m f g (nat_lt f.to n && marks rows f) (nat_lt g.to n && set.contains (row_of rows m) g.to) (sym (has-rows_flows rows n m f) ∙ p) (sym (has-row_flows m (row_of rows m) n g) ∙ q))

-- ---- of rows of flows between n hosts

get_or_beyond : (rows : List HostNumbers) (i : ℕ) → length rows ≤ i → row_of rows i ≡ set.empty
get_or_beyond [] i beyond = refl
get_or_beyond (row ∷ rows) zero beyond = absurd (omega arith)
get_or_beyond (row ∷ rows) (suc i) beyond = get_or_beyond rows i (omega arith)

pub marked_flow : (n : ℕ) (rows : List HostNumbers) (f : Flow) → AreRows n rows → IsTrue (marks rows f) → IsFlow n f
marked_flow n rows f are shown =
    elim (cases_lt f.from n) [
      | inl within ↦ (within, (are.flows f within shown).0, (are.flows f within shown).1)
      | inr beyond ↦ absurd (false≢true (sym (ap (λ s. set.contains s f.to) (get_or_beyond rows f.from (omega (arith, beyond, are.counted))) ∙ set.contains-empty nat_cmp f.to) ∙ shown))
    ]

only_within : (a b n : ℕ) (c : Bool) → (IsTrue c → a < n) → (IsTrue c → b < n) → (nat_lt a n && (nat_lt b n && c)) ≡ c
only_within a b n true p q = let h : a < n = p refl in let k : b < n = q refl in grind (arith, nat_tests)
only_within a b n false p q = grind (arith, nat_tests)

pub has-flows_of : (n : ℕ) (rows : List HostNumbers) (f : Flow) → AreRows n rows → has (flows_of rows n) f ≡ marks rows f
has-flows_of n rows f are =
    has-rows_flows rows n n f
    ∙ only_within f.from f.to n (marks rows f) (λ h. (marked_flow n rows f are h).0) (λ h. (marked_flow n rows f are h).1)

pub IsFlowSet-flows_of : (n : ℕ) (rows : List HostNumbers) → AreRows n rows → IsFlowSet n (flows_of rows n)
IsFlowSet-flows_of n rows are = record {
  small = are.small;
  ordered = IsOrdered-rows_flows rows n n;
  flows = λ f there. marked_flow n rows f are (sym (has-flows_of n rows f are) ∙ there);
}

-- Sets with the same flows are equal.
pub flows_of-is : (n : ℕ) (rows : List HostNumbers) (fs : List Flow) → AreRows n rows → IsOrdered fs
    → ((g : Flow) → marks rows g ≡ has fs g) → flows_of rows n ≡ fs
flows_of-is n rows fs are ordered same =
    flows_ext (flows_of rows n) fs (IsOrdered-rows_flows rows n n) ordered (λ g. has-flows_of n rows g are ∙ same g)

-- ---- changes

put_case : (a b x y : ℕ) (c : Bool) → x ≡ a → (nat_eq y b || c) ≡ (((a == x) && (b == y)) || c)
put_case a b x y c same = grind (arith, nat_tests)

other_case : (a b x y : ℕ) (c : Bool) → x ≢ a → c ≡ (((a == x) && (b == y)) || c)
other_case a b x y c other = grind (arith, nat_tests)

pub marks-insert : (rows : List HostNumbers) (f g : Flow) → f.from < length rows
    → marks (slice_set rows f.from (set.insert (row_of rows f.from) f.to)) g ≡ (same_flow f g || marks rows g)
marks-insert rows f g within =
    elim (cases_eq g.from f.from) [
      | inl same ↦
          ap (λ i. set.contains (row_of (slice_set rows f.from (set.insert (row_of rows f.from) f.to)) i) g.to) same
          ∙ ap (λ s. set.contains s g.to) (get_or-set_same rows f.from (set.insert (row_of rows f.from) f.to) set.empty within)
          ∙ contains-insert (row_of rows f.from) f.to g.to
          ∙ put_case f.from f.to g.from g.to (set.contains (row_of rows f.from) g.to) same
          ∙ ap (λ i. same_flow f g || set.contains (row_of rows i) g.to) (sym same)
      | inr other ↦
          ap (λ s. set.contains s g.to) (get_or-set_other rows f.from g.from (set.insert (row_of rows f.from) f.to) set.empty other)
          ∙ other_case f.from f.to g.from g.to (marks rows g) other
    ]

take_case : (a b x y : ℕ) (c : Bool) → x ≡ a → (not (nat_eq y b) && c) ≡ (c && not ((a == x) && (b == y)))
take_case a b x y c same = grind (arith, nat_tests)

stay_case : (a b x y : ℕ) (c : Bool) → x ≢ a → c ≡ (c && not ((a == x) && (b == y)))
stay_case a b x y c other = grind (arith, nat_tests)

pub marks-remove : (rows : List HostNumbers) (f g : Flow) → f.from < length rows
    → marks (slice_set rows f.from (set.remove (row_of rows f.from) f.to)) g ≡ (marks rows g && not (same_flow f g))
marks-remove rows f g within =
    elim (cases_eq g.from f.from) [
      | inl same ↦
          ap (λ i. set.contains (row_of (slice_set rows f.from (set.remove (row_of rows f.from) f.to)) i) g.to) same
          ∙ ap (λ s. set.contains s g.to) (get_or-set_same rows f.from (set.remove (row_of rows f.from) f.to) set.empty within)
          ∙ contains-remove (row_of rows f.from) f.to g.to
          ∙ take_case f.from f.to g.from g.to (set.contains (row_of rows f.from) g.to) same
          ∙ ap (λ i. set.contains (row_of rows i) g.to && not (same_flow f g)) (sym same)
      | inr other ↦
          ap (λ s. set.contains s g.to) (get_or-set_other rows f.from g.from (set.remove (row_of rows f.from) f.to) set.empty other)
          ∙ stay_case f.from f.to g.from g.to (marks rows g) other
    ]

put_shown : (f g : Flow) (b : Bool) (n : ℕ) → IsFlow n f → (IsTrue b → IsFlow n g) → IsTrue (same_flow f g || b)
    → (g.to < n) × (g.from ≢ g.to)
put_shown f g true n is_flow old shown = ((old refl).1, (old refl).2)
put_shown f g false n is_flow old shown = (grind (arith, nat_tests, is_flow.1), λ same. is_flow.2 (grind (arith, nat_tests, same)))

pub AreRows-insert : (n : ℕ) (rows : List HostNumbers) (f : Flow) → AreRows n rows → IsFlow n f
    → AreRows n (slice_set rows f.from (set.insert (row_of rows f.from) f.to))
AreRows-insert n rows f are is_flow = record {
  small = are.small;
  counted = length-set rows f.from _ ∙ are.counted;
  flows = λ g within shown. put_shown f g (marks rows g) n is_flow (marked_flow n rows g are) (sym (marks-insert rows f g (omega (arith, is_flow.0, are.counted))) ∙ shown);
}

pub AreRows-remove : (n : ℕ) (rows : List HostNumbers) (f : Flow) → AreRows n rows → IsFlow n f
    → AreRows n (slice_set rows f.from (set.remove (row_of rows f.from) f.to))
AreRows-remove n rows f are is_flow = record {
  small = are.small;
  counted = length-set rows f.from _ ∙ are.counted;
  flows = λ g within shown. are.flows g within (and_parts _ _ (sym (marks-remove rows f g (omega (arith, is_flow.0, are.counted))) ∙ shown)).0;
}

pub flows_of-insert : (n : ℕ) (rows : List HostNumbers) (f : Flow) → AreRows n rows → IsFlow n f
    → flows_of (slice_set rows f.from (set.insert (row_of rows f.from) f.to)) n ≡ with_flow (flows_of rows n) f
flows_of-insert n rows f are is_flow =
    flows_of-is n _ (with_flow (flows_of rows n) f) (AreRows-insert n rows f are is_flow)
    (IsOrdered-with_flow (flows_of rows n) f (IsOrdered-rows_flows rows n n))
    (λ g. marks-insert rows f g (omega (arith, is_flow.0, are.counted)) ∙ sym (has-with_flow (flows_of rows n) f g ∙ ap (λ b. same_flow f g || b) (has-flows_of n rows g are)))

pub flows_of-remove : (n : ℕ) (rows : List HostNumbers) (f : Flow) → AreRows n rows → IsFlow n f
    → flows_of (slice_set rows f.from (set.remove (row_of rows f.from) f.to)) n ≡ without_flow (flows_of rows n) f
flows_of-remove n rows f are is_flow =
    flows_of-is n _ (without_flow (flows_of rows n) f) (AreRows-remove n rows f are is_flow)
    (IsOrdered-without_flow (flows_of rows n) f (IsOrdered-rows_flows rows n n))
    (λ g. marks-remove rows f g (omega (arith, is_flow.0, are.counted)) ∙ sym (has-without_flow (flows_of rows n) f g ∙ ap (λ b. b && not (same_flow f g)) (has-flows_of n rows g are)))

-- ---- no flows

marks_nothing : (n : ℕ) (f : Flow) → marks (replicate n set.empty) f ≡ false
marks_nothing n f =
    elim (cases_lt f.from n) [
      | inl within ↦ ap (λ s. set.contains s f.to) (get_or-replicate n f.from set.empty set.empty (omega (arith, within, length-replicate n (set.empty {K = ℕ} {R = nat_cmp})))) ∙ set.contains-empty nat_cmp f.to
      | inr beyond ↦ ap (λ s. set.contains s f.to) (get_or_beyond (replicate n set.empty) f.from (omega (arith, beyond, length-replicate n (set.empty {K = ℕ} {R = nat_cmp})))) ∙ set.contains-empty nat_cmp f.to
    ]

pub AreRows-nothing : (n : ℕ) → n ≤ 256 → AreRows n (replicate n set.empty)
AreRows-nothing n small = record {
  small = small;
  counted = length-replicate n _;
  flows = λ f within shown. absurd (false≢true (sym (marks_nothing n f) ∙ shown));
}

pub flows_of-nothing : (n : ℕ) → n ≤ 256 → flows_of (replicate n set.empty) n ≡ []
flows_of-nothing n small = flows_of-is n (replicate n set.empty) [] (AreRows-nothing n small) tt (marks_nothing n)

-- ---- how many

length-row : (i : ℕ) (row : HostNumbers) (n : ℕ) → length (row_flows i row n) ≡ set.len (hosts_below n (set.contains row))
unfolding row_flows hosts_below
length-row i row zero = sym (set.len-empty nat_cmp)
length-row i row (suc n) =
    length-append (row_flows i row n) (singleton_if (set.contains row n) (record { from = i; to = n }))
    ∙ (λ k. length-row i row n k + length-singleton_if (set.contains row n) (record { from = i; to = n }) k)
    ∙ sym (len_more n (set.contains row))
  where
    length-singleton_if : (b : Bool) (f : Flow) → length (singleton_if b f) ≡ cond b 1 0
    length-singleton_if true f = refl
    length-singleton_if false f = refl

all_below : (n : ℕ) (row : HostNumbers) → ((q : ℕ) → IsTrue (set.contains row q) → q < n) → hosts_below n (set.contains row) ≡ row
all_below n row within = hosts_ext _ row (λ q. contains-hosts_below n (set.contains row) q ∙ only (set.contains row q) q (within q))
  where
    only : (b : Bool) (q : ℕ) → (IsTrue b → q < n) → (nat_lt q n && b) ≡ b
    only true q p = let h : q < n = p refl in grind (arith, nat_tests)
    only false q p = grind (arith, nat_tests)

pub length-rows_more : (n m : ℕ) (rows : List HostNumbers) → AreRows n rows → m < n
    → length (rows_flows rows n (suc m)) ≡ length (rows_flows rows n m) + set.len (row_of rows m)
unfolding rows_flows
length-rows_more n m rows are below =
    length-append (rows_flows rows n m) (row_flows m (row_of rows m) n)
    ∙ ap (λ k. length (rows_flows rows n m) + k)
    (length-row m (row_of rows m) n ∙ ap (λ s. set.len s) (all_below n (row_of rows m) (λ q shown. (are.flows (record { from = m; to = q }) below shown).0)))

pub length-rows_none : (n : ℕ) (rows : List HostNumbers) → length (rows_flows rows n 0) ≡ 0
unfolding rows_flows
length-rows_none n rows = refl

-- ---- reading a row

pub row_read : (rows : List HostNumbers) (i : ℕ) (row : HostNumbers) → i < length rows → row ≡ get_or rows i row → row ≡ row_of rows i
row_read rows i row within read = get_or_read rows i row within read set.empty
