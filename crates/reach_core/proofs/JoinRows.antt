-- The rows of joined hosts: for the empty set, after one more flow, and after an undo.
use Rattle.std.proofs.Common.{◌≡◌, ℕ, ◌<◌, ◌≤◌, Bool, ◌||◌, nat_eq, nat_cmp, ◌↔◌, ◌⊎◌, inl, inr, List, [], Option, Some, None, length, replicate, refl, sym, ◌∙◌, ap, subst, arith}
use Rattle.std.specs.Prelude.{IsTrue, IsSome, IfSome}
use Rattle.std.specs.FinSet as set
use Rattle.std.specs.Cmp.{nat_cmp_total}
use Rattle.std.proofs.lemmas.Bool.{or_cases, or_left, or_right, eqb-true, eq-eqb, false≢true}
use Rattle.std.proofs.lemmas.List.{length-replicate}
use Rattle.flow_set.specs.declared.flow.Flow.{Flow}
use Rattle.flow_set.specs.Flow.{IsFlow, same_flow}
use Rattle.flow_set.specs.FlowSet.{has, with_flow}
use Rattle.flow_set.specs.laws.FlowLaws.{has-with_flow}
use Rattle.flow_set.specs.inner.FlowSetView.{IsFlowSet}
use Rattle.flow_set.specs.inner.Steps.{UndoableFlows, stepped, undone, flows_before_step}
use Rattle.flow_set.proofs.SubsetLaws.{IsFlowSet-nothing, IsFlowSet-with_flow}
use Rattle.flow_set.specs.HostSet.{HostNumbers}
use Rattle.flow_set.specs.inner.HostSet.{row_of}
use Rattle.flow_set.specs.laws.HostSetLaws.{contains-insert}
use Rattle.reach_core.specs.Walks.{Joined, has_either}
use Rattle.reach_core.specs.laws.WalkLaws.{HasPath, cases_path, path_of_walk}
use Rattle.reach_core.specs.laws.ReachLaws.{Joined-within, Joined-back, Joined-nothing_new, Joined-below, Joined-with_flow, Touches, Touches-joined}
use Rattle.reach_core.specs.inner.Rows.{ShowsJoin, AreBelow, IsWidened, IsBack, HasJoinRows, row_now, row_before}
use Rattle.reach_core.specs.declared.stepped.UndoableRows.{UndoableRows}
use Rattle.reach_core.proofs.Closes.{tells_as, tells_bool, tells_nothing}
use Rattle.reach_core.proofs.Widened.{contains-widened, before-widened, before-kept, fits_same, fits_widened}

-- ---- equivalent rows

ShowsJoin-as : (n : ℕ) (fs : List Flow) (joined other : ℕ → HostNumbers) → ShowsJoin n fs joined
    → ((i : ℕ) → i < n → other i ≡ joined i) → ShowsJoin n fs other
ShowsJoin-as n fs joined other shows same = record {
  is_set = shows.is_set;
  either = λ i j below. tells_as (other i) (joined i) j (Joined fs i j) (same i below) (shows.either i j below);
}

-- ---- a flow whose hosts are joined already

ShowsJoin-nothing_new : (n : ℕ) (fs : List Flow) (f : Flow) (joined : ℕ → HostNumbers) → IsFlow n f → Joined fs f.from f.to
    → ShowsJoin n fs joined → ShowsJoin n (with_flow fs f) joined
ShowsJoin-nothing_new n fs f joined is_flow there shows = record {
  is_set = IsFlowSet-with_flow n fs f shows.is_set is_flow;
  either = λ i j below. (
    λ shown. Joined-within fs (with_flow fs f) (λ g here. has-with_flow fs f g ∙ or_right (same_flow f g) (has fs g) here) i j ((shows.either i j below).0 shown),
    λ walk. (shows.either i j below).1 (Joined-nothing_new fs f there i j walk),
  );
}

-- ---- one more flow

-- The hosts that a new flow touches.
pub record AreTouched (fs : List Flow) (f : Flow) (all : HostNumbers) : Type 0 where
  pub touched : (i : ℕ) → IsTrue (set.contains all i) ↔ Touches fs f i

contains-joined_by : (f : Flow) (from to all : HostNumbers) (i : ℕ) → all ≡ set.insert (set.insert (set.union from to) f.from) f.to
    → set.contains all i ≡ (nat_eq i f.to || (nat_eq i f.from || (set.contains from i || set.contains to i)))
contains-joined_by f from to all i is =
    ap (λ (s : HostNumbers). set.contains s i) is
    ∙ contains-insert (set.insert (set.union from to) f.from) f.to i
    ∙ ap (λ b. nat_eq i f.to || b)
    (contains-insert (set.union from to) f.from i
    ∙ ap (λ b. nat_eq i f.from || b) (set.contains-union nat_cmp_total from to i))

-- A path to the host of a row, by the row.
shown_by : (fs : List Flow) (k i : ℕ) (row : HostNumbers) → (IsTrue (set.contains row i) ↔ Joined fs k i)
    → IsTrue (set.contains row i) → HasPath (has_either fs) i k
shown_by fs k i row tells there = path_of_walk (has_either fs) i k (Joined-back fs k i (tells.0 there))

shows_path : (fs : List Flow) (k i : ℕ) (row : HostNumbers) → (IsTrue (set.contains row i) ↔ Joined fs k i)
    → HasPath (has_either fs) i k → IsTrue (nat_eq i k) ⊎ IsTrue (set.contains row i)
shows_path fs k i row tells path =
    elim (cases_path (has_either fs) i k path) [
      | inl same ↦ inl (eq-eqb _ _ same)
      | inr walk ↦ inr (tells.1 (Joined-back fs i k walk))
    ]

pub touched : (fs : List Flow) (f : Flow) (from to all : HostNumbers) → ((i : ℕ) → IsTrue (set.contains from i) ↔ Joined fs f.from i)
    → ((i : ℕ) → IsTrue (set.contains to i) ↔ Joined fs f.to i) → all ≡ set.insert (set.insert (set.union from to) f.from) f.to
    → (i : ℕ) → IsTrue (set.contains all i) ↔ Touches fs f i
touched fs f from to all tells_from tells_to is i = (
  λ there. elim (or_cases (nat_eq i f.to) _ (sym (contains-joined_by f from to all i is) ∙ there)) [
    | inl same ↦ inr ([], eqb-true _ _ same)
    | inr other ↦ elim (or_cases (nat_eq i f.from) _ other) [
      | inl same ↦ inl ([], eqb-true _ _ same)
      | inr rows ↦ elim (or_cases (set.contains from i) (set.contains to i) rows) [
        | inl first ↦ inl (shown_by fs f.from i from (tells_from i) first)
        | inr second ↦ inr (shown_by fs f.to i to (tells_to i) second)
      ]
    ]
  ],
  λ touches. contains-joined_by f from to all i is ∙ elim touches [
    | inl path ↦ or_right (nat_eq i f.to) _ (elim (shows_path fs f.from i from (tells_from i) path) [
      | inl same ↦ or_left (nat_eq i f.from) _ same
      | inr first ↦ or_right (nat_eq i f.from) _ (or_left (set.contains from i) (set.contains to i) first)
    ])
    | inr path ↦ elim (shows_path fs f.to i to (tells_to i) path) [
      | inl same ↦ or_left (nat_eq i f.to) _ same
      | inr second ↦ or_right (nat_eq i f.to) _ (or_right (nat_eq i f.from) _ (or_right (set.contains from i) (set.contains to i) second))
    ]
  ],
)

-- They are the hosts that are joined with its sender after the flow is added.
pub joined_as_touched : (fs : List Flow) (f : Flow) (i : ℕ) (shown : Bool) → (IsTrue shown ↔ Touches fs f i)
    → IsTrue shown ↔ Joined (with_flow fs f) f.from i
joined_as_touched fs f i shown tells =
    let law = Touches-joined fs f i in
    (λ there. law.0 (tells.0 there), λ joined. tells.1 (law.1 joined))

pub touched_as_joined : (fs : List Flow) (f : Flow) (all : HostNumbers)
    → ((i : ℕ) → IsTrue (set.contains all i) ↔ Joined (with_flow fs f) f.from i) → AreTouched fs f all
touched_as_joined fs f all tells = record {
  touched = λ i. (λ there. (Touches-joined fs f i).1 ((tells i).0 there), λ touches. (tells i).1 ((Touches-joined fs f i).0 touches));
}

pub touched_below : (n : ℕ) (fs : List Flow) (f : Flow) (all : HostNumbers) → IsFlow n f → IsFlowSet n fs → AreTouched fs f all
    → AreBelow all n
touched_below n fs f all is_flow is_set are i there =
    let near : (k : ℕ) → k < n → HasPath (has_either fs) i k → i < n =
    λ k within path. elim (cases_path (has_either fs) i k path) [
      | inl same ↦ omega (arith, same, within)
      | inr walk ↦ (Joined-below n fs is_set i k walk).0
    ] in
    elim ((are.touched i).0 there) [ inl path ↦ near f.from is_flow.0 path | inr path ↦ near f.to is_flow.1 path ]

ShowsJoin-with_flow : (n : ℕ) (fs : List Flow) (f : Flow) (joined joined' was : List HostNumbers) (all : HostNumbers) → IsFlow n f
    → length joined ≡ n → ShowsJoin n fs (row_of joined) → AreTouched fs f all → IsWidened joined joined' was all all
    → ShowsJoin n (with_flow fs f) (row_of joined')
ShowsJoin-with_flow n fs f joined joined' was all is_flow counted shows are widened = record {
  is_set = IsFlowSet-with_flow n fs f shows.is_set is_flow;
  either = λ i j below. tells_bool _ _ _ (contains-widened joined joined' was all all i j widened (omega (arith, below, counted)))
      (Joined-with_flow fs f i j _ _ _ (shows.either i j below) (are.touched i) (are.touched j));
}

-- ---- steps

-- Its hosts are joined already if the row of its sender contains its receiver.
pub joined_already : (t : UndoableFlows) (f : Flow) (joined : UndoableRows) (row : HostNumbers) (shown : Bool) → IsFlow t.size f
    → HasJoinRows t joined → row ≡ row_of joined.rows f.from → shown ≡ set.contains row f.to → IsTrue shown → Joined t.flows f.from f.to
joined_already t f joined row shown is_flow rows row_is shown_is there =
    (rows.now.either f.from f.to is_flow.0).0 (sym (ap (λ (s : HostNumbers). set.contains s f.to) row_is) ∙ (sym shown_is ∙ there))

pub HasJoinRows-as : (t new : UndoableFlows) (f : Flow) (steps : UndoableFlows) (joined rows : UndoableRows) → new ≡ stepped steps f → steps ≡ t
    → rows ≡ joined → HasJoinRows (stepped t f) joined → HasJoinRows new rows
HasJoinRows-as t new f steps joined rows new_is steps_is rows_is has =
    subst (λ (s : UndoableFlows). HasJoinRows s rows) (sym (new_is ∙ ap (λ (s : UndoableFlows). stepped s f) steps_is))
    (subst (λ (r : UndoableRows). HasJoinRows (stepped t f) r) (sym rows_is) has)

pub HasJoinRows-kept : (t : UndoableFlows) (f : Flow) (joined joined' : UndoableRows) → IsFlow t.size f → HasJoinRows t joined
    → Joined t.flows f.from f.to → joined' ≡ record joined { changed = set.empty } → HasJoinRows (stepped t f) joined'
HasJoinRows-kept t f joined joined' is_flow rows there kept =
    let r : UndoableRows = record joined { changed = set.empty } in
    subst (λ (x : UndoableRows). HasJoinRows (stepped t f) x) (sym kept)
    (record {
      joined_fits = fits_same t.size joined r rows.joined_fits refl refl refl;
      now = ShowsJoin-nothing_new t.size t.flows f (row_of joined.rows) is_flow there rows.now;
      before = ShowsJoin-as t.size t.flows (row_now joined) (row_before r) rows.now (λ i below. before-kept r i refl);
    })

pub HasJoinRows-widened : (t : UndoableFlows) (f : Flow) (joined joined' : UndoableRows) (all : HostNumbers) → IsFlow t.size f
    → HasJoinRows t joined → AreTouched t.flows f all → IsWidened joined.rows joined'.rows joined'.before all all → joined'.changed ≡ all
    → HasJoinRows (stepped t f) joined'
HasJoinRows-widened t f joined joined' all is_flow rows are widened changed = record {
  joined_fits = fits_widened t.size joined joined' all all rows.joined_fits widened changed
      (touched_below t.size t.flows f all is_flow rows.now.is_set are);
  now = ShowsJoin-with_flow t.size t.flows f joined.rows joined'.rows joined'.before all is_flow rows.joined_fits.rows_length rows.now are widened;
  before = ShowsJoin-as t.size t.flows (row_now joined) (row_before joined') rows.now
      (λ i below. before-widened joined.rows joined' all all i widened changed (omega (arith, below, rows.joined_fits.rows_length)));
}

-- The last step committed.
pub HasJoinRows-forgotten : (t new : UndoableFlows) (joined : UndoableRows) → new ≡ record t { before_step = None } → HasJoinRows t joined
    → HasJoinRows new joined
HasJoinRows-forgotten t new joined is rows =
    subst (λ (s : UndoableFlows). HasJoinRows s joined) (sym is) (record { joined_fits = rows.joined_fits; now = rows.now; before = tt })

before_shown : (n : ℕ) (fs : List Flow) (before : Option (List Flow)) (joined : ℕ → HostNumbers) → IsSome before
    → IfSome before (λ gs. ShowsJoin n gs joined) → ShowsJoin n (flows_before_step before fs) joined
before_shown n fs (Some gs) joined some shows = shows
before_shown n fs None joined some shows = absurd (false≢true some)

pub HasJoinRows-back : (t : UndoableFlows) (joined joined' : UndoableRows) → IsSome t.before_step → HasJoinRows t joined
    → IsBack joined joined'.rows → joined'.before ≡ joined.before → joined'.changed ≡ set.empty → HasJoinRows (undone t) joined'
HasJoinRows-back t joined joined' some rows back room changed = record {
  joined_fits = fits_same t.size joined joined' rows.joined_fits back.same_length (ap length room) changed;
  now = ShowsJoin-as t.size (flows_before_step t.before_step t.flows) (row_before joined) (row_now joined')
      (before_shown t.size t.flows t.before_step (row_before joined) some rows.before)
      (λ i below. back.back i (omega (arith, below, rows.joined_fits.rows_length)));
  before = tt;
}

-- ---- the empty set

pub HasJoinRows-nothing : (n : ℕ) (t : UndoableFlows) (joined : UndoableRows) → n ≤ 256
    → t ≡ record { size = n; flows = []; before_step = None }
    → joined ≡ record { rows = replicate n set.empty; before = replicate n set.empty; changed = set.empty }
    → HasJoinRows t joined
HasJoinRows-nothing n t joined small t_is joined_is =
    subst (λ (s : UndoableFlows). HasJoinRows s joined) (sym t_is)
    (subst (λ (x : UndoableRows). HasJoinRows (record { size = n; flows = []; before_step = None }) x) (sym joined_is)
    (record {
      joined_fits = record {
        small = small;
        rows_length = length-replicate n _;
        before_length = length-replicate n _;
        changed_below = λ i there. absurd (false≢true (sym (set.contains-empty nat_cmp i) ∙ there));
      };
      now = record {
        is_set = IsFlowSet-nothing n small;
        either = λ i j below. tells_nothing n (has_either []) i j i j (λ f. refl) below;
      };
      before = tt;
    }))
