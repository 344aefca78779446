-- The rows of reachability: for the empty set, after one more flow, and after an undo.
use Rattle.std.proofs.Common.{◌≡◌, ℕ, ◌<◌, ◌≤◌, Bool, true, false, ◌&&◌, ◌||◌, nat_cmp, ◌↔◌, List, [], Option, Some, None, length, replicate, refl, sym, ◌∙◌, ap, subst, arith}
use Rattle.std.specs.Prelude.{IsTrue, IsSome, IfSome}
use Rattle.std.specs.FinSet as set
use Rattle.std.proofs.lemmas.Bool.{false≢true}
use Rattle.std.proofs.lemmas.List.{length-replicate}
use Rattle.flow_set.specs.declared.flow.Flow.{Flow}
use Rattle.flow_set.specs.Flow.{IsFlow}
use Rattle.flow_set.specs.FlowSet.{has, with_flow}
use Rattle.flow_set.specs.inner.FlowSetView.{IsFlowSet}
use Rattle.flow_set.specs.inner.Steps.{UndoableFlows, stepped, undone, flows_before_step}
use Rattle.flow_set.proofs.SubsetLaws.{IsFlowSet-nothing, IsFlowSet-with_flow}
use Rattle.flow_set.specs.HostSet.{HostNumbers}
use Rattle.flow_set.specs.inner.HostSet.{row_of}
use Rattle.reach_core.specs.Walks.{Reaches}
use Rattle.reach_core.specs.laws.ReachLaws.{Reaches-more, Reaches-nothing_new, Reaches-below}
use Rattle.reach_core.specs.inner.Opening.{ReachesOnlyWith}
use Rattle.reach_core.specs.inner.Rows.{ShowsReach, AreBelow, IsWidened, IsBack, FitsRows, HasReachRows, row_now, row_before}
use Rattle.reach_core.specs.declared.stepped.UndoableRows.{UndoableRows}
use Rattle.reach_core.proofs.Closes.{tells_as, tells_bool, tells_nothing}
use Rattle.reach_core.proofs.Opening.{reaches_opened}
use Rattle.reach_core.proofs.Widened.{contains-widened, before-widened, before-kept, fits_same, fits_widened}

-- ---- equivalent rows

ShowsReach-as : (n : ℕ) (fs : List Flow) (reached coming other_reached other_coming : ℕ → HostNumbers)
    → ShowsReach n fs reached coming → ((i : ℕ) → i < n → other_reached i ≡ reached i)
    → ((i : ℕ) → i < n → other_coming i ≡ coming i) → ShowsReach n fs other_reached other_coming
ShowsReach-as n fs reached coming other_reached other_coming shows forth back = record {
  is_set = shows.is_set;
  forth = λ i j below. tells_as (other_reached i) (reached i) j (Reaches fs i j) (forth i below) (shows.forth i j below);
  back = λ i j below. tells_as (other_coming j) (coming j) i (Reaches fs i j) (back j below) (shows.back i j below);
}

-- ---- a flow whose sender reaches its receiver already

nothing_new : (fs : List Flow) (f : Flow) (i j : ℕ) (P : Type 0) → Reaches fs f.from f.to → (P ↔ Reaches fs i j)
    → P ↔ Reaches (with_flow fs f) i j
nothing_new fs f i j P there tells =
    (λ shown. Reaches-more fs f i j (tells.0 shown), λ walk. tells.1 (Reaches-nothing_new fs f there i j walk))

ShowsReach-nothing_new : (n : ℕ) (fs : List Flow) (f : Flow) (reached coming : ℕ → HostNumbers) → IsFlow n f
    → Reaches fs f.from f.to → ShowsReach n fs reached coming → ShowsReach n (with_flow fs f) reached coming
ShowsReach-nothing_new n fs f reached coming is_flow there shows = record {
  is_set = IsFlowSet-with_flow n fs f shows.is_set is_flow;
  forth = λ i j below. nothing_new fs f i j _ there (shows.forth i j below);
  back = λ i j below. nothing_new fs f i j _ there (shows.back i j below);
}

-- ---- one more flow

and_swap : (a b c : Bool) → (a || (b && c)) ≡ (a || (c && b))
and_swap true b c = refl
and_swap false true true = refl
and_swap false true false = refl
and_swap false false true = refl
and_swap false false false = refl

-- The hosts that reach more with a new flow, and the hosts that are newly reached.
pub record AreOpened (fs : List Flow) (f : Flow) (senders beyond : HostNumbers) : Type 0 where
  pub by : (i : ℕ) → IsTrue (set.contains senders i) ↔ ReachesOnlyWith f fs i f.to
  pub to : (j : ℕ) → IsTrue (set.contains beyond j) ↔ ReachesOnlyWith f fs f.from j

pub senders_below : (n : ℕ) (fs : List Flow) (f : Flow) (senders beyond : HostNumbers) → IsFlow n f → IsFlowSet n fs
    → AreOpened fs f senders beyond → AreBelow senders n
senders_below n fs f senders beyond is_flow is_set are i there =
    (Reaches-below n (with_flow fs f) (IsFlowSet-with_flow n fs f is_set is_flow) i f.to ((are.by i).0 there).0).0

pub beyond_below : (n : ℕ) (fs : List Flow) (f : Flow) (senders beyond : HostNumbers) → IsFlow n f → IsFlowSet n fs
    → AreOpened fs f senders beyond → AreBelow beyond n
beyond_below n fs f senders beyond is_flow is_set are j there =
    (Reaches-below n (with_flow fs f) (IsFlowSet-with_flow n fs f is_set is_flow) f.from j ((are.to j).0 there).0).1

ShowsReach-with_flow : (n : ℕ) (fs : List Flow) (f : Flow) (reached reached' was coming coming' was' : List HostNumbers)
    (senders beyond : HostNumbers) → IsFlow n f → length reached ≡ n → length coming ≡ n
    → ShowsReach n fs (row_of reached) (row_of coming) → AreOpened fs f senders beyond
    → IsWidened reached reached' was senders beyond → IsWidened coming coming' was' beyond senders
    → ShowsReach n (with_flow fs f) (row_of reached') (row_of coming')
ShowsReach-with_flow n fs f reached reached' was coming coming' was' senders beyond is_flow all all_coming shows are widened widened_back =
    record {
      is_set = IsFlowSet-with_flow n fs f shows.is_set is_flow;
      forth = λ i j below. tells_bool _ _ _ (contains-widened reached reached' was senders beyond i j widened (omega (arith, below, all)))
          (reaches_opened fs f i j _ _ _ _ _ (shows.forth i j below) (are.by i) (are.to j) (shows.back i f.to is_flow.1) (shows.forth f.from j is_flow.0));
      back = λ i j below. tells_bool _ _ _ (contains-widened coming coming' was' beyond senders j i widened_back (omega (arith, below, all_coming)) ∙ and_swap _ (set.contains beyond j) (set.contains senders i))
          (reaches_opened fs f i j _ _ _ _ _ (shows.back i j below) (are.by i) (are.to j) (shows.back i f.to is_flow.1) (shows.forth f.from j is_flow.0));
    }

-- ---- steps

-- Its receiver is reached already if the row of its sender contains it.
pub reached_already : (t : UndoableFlows) (f : Flow) (reached coming : UndoableRows) (row : HostNumbers) (shown : Bool) → IsFlow t.size f
    → HasReachRows t reached coming → row ≡ row_of reached.rows f.from → shown ≡ set.contains row f.to → IsTrue shown
    → Reaches t.flows f.from f.to
reached_already t f reached coming row shown is_flow rows row_is shown_is there =
    (rows.now.forth f.from f.to is_flow.0).0 (sym (ap (λ (s : HostNumbers). set.contains s f.to) row_is) ∙ (sym shown_is ∙ there))

pub HasReachRows-as : (t new : UndoableFlows) (f : Flow) (steps : UndoableFlows) (reached coming rows others : UndoableRows) → new ≡ stepped steps f
    → steps ≡ t → rows ≡ reached → others ≡ coming → HasReachRows (stepped t f) reached coming → HasReachRows new rows others
HasReachRows-as t new f steps reached coming rows others new_is steps_is rows_is others_is has =
    subst (λ (s : UndoableFlows). HasReachRows s rows others) (sym (new_is ∙ ap (λ (s : UndoableFlows). stepped s f) steps_is))
    (subst (λ (r : UndoableRows). HasReachRows (stepped t f) r others) (sym rows_is)
    (subst (λ (r : UndoableRows). HasReachRows (stepped t f) reached r) (sym others_is) has))

pub HasReachRows-kept : (t : UndoableFlows) (f : Flow) (reached coming reached' coming' : UndoableRows) → IsFlow t.size f
    → HasReachRows t reached coming → Reaches t.flows f.from f.to → reached' ≡ record reached { changed = set.empty }
    → coming' ≡ record coming { changed = set.empty } → HasReachRows (stepped t f) reached' coming'
HasReachRows-kept t f reached coming reached' coming' is_flow rows there kept kept_coming =
    let P : UndoableRows → UndoableRows → Type 0 = λ r c. HasReachRows (stepped t f) r c in
    let r : UndoableRows = record reached { changed = set.empty } in
    let c : UndoableRows = record coming { changed = set.empty } in
    subst (λ x. P x coming') (sym kept) (subst (λ x. P r x) (sym kept_coming)
    (record {
      reached_fits = fits_same t.size reached r rows.reached_fits refl refl refl;
      coming_fits = fits_same t.size coming c rows.coming_fits refl refl refl;
      now = ShowsReach-nothing_new t.size t.flows f (row_of reached.rows) (row_of coming.rows) is_flow there rows.now;
      before = ShowsReach-as t.size t.flows (row_now reached) (row_now coming) (row_before r) (row_before c) rows.now
          (λ i below. before-kept r i refl) (λ i below. before-kept c i refl);
    }))

pub HasReachRows-widened : (t : UndoableFlows) (f : Flow) (reached coming reached' coming' : UndoableRows) (senders beyond : HostNumbers)
    → IsFlow t.size f → HasReachRows t reached coming → AreOpened t.flows f senders beyond
    → IsWidened reached.rows reached'.rows reached'.before senders beyond → reached'.changed ≡ senders
    → IsWidened coming.rows coming'.rows coming'.before beyond senders → coming'.changed ≡ beyond
    → HasReachRows (stepped t f) reached' coming'
HasReachRows-widened t f reached coming reached' coming' senders beyond is_flow rows are widened changed widened_back changed_back =
    record {
      reached_fits = fits_widened t.size reached reached' senders beyond rows.reached_fits widened changed
          (senders_below t.size t.flows f senders beyond is_flow rows.now.is_set are);
      coming_fits = fits_widened t.size coming coming' beyond senders rows.coming_fits widened_back changed_back
          (beyond_below t.size t.flows f senders beyond is_flow rows.now.is_set are);
      now = ShowsReach-with_flow t.size t.flows f reached.rows reached'.rows reached'.before coming.rows coming'.rows coming'.before senders beyond
          is_flow rows.reached_fits.rows_length rows.coming_fits.rows_length rows.now are widened widened_back;
      before = ShowsReach-as t.size t.flows (row_now reached) (row_now coming) (row_before reached') (row_before coming') rows.now
          (λ i below. before-widened reached.rows reached' senders beyond i widened changed (omega (arith, below, rows.reached_fits.rows_length)))
          (λ i below. before-widened coming.rows coming' beyond senders i widened_back changed_back (omega (arith, below, rows.coming_fits.rows_length)));
    }

-- The last step committed.
pub HasReachRows-forgotten : (t new : UndoableFlows) (reached coming : UndoableRows) → new ≡ record t { before_step = None }
    → HasReachRows t reached coming → HasReachRows new reached coming
HasReachRows-forgotten t new reached coming is rows =
    subst (λ (s : UndoableFlows). HasReachRows s reached coming) (sym is)
    (record { reached_fits = rows.reached_fits; coming_fits = rows.coming_fits; now = rows.now; before = tt })

before_shown : (n : ℕ) (fs : List Flow) (before : Option (List Flow)) (reached coming : ℕ → HostNumbers) → IsSome before
    → IfSome before (λ gs. ShowsReach n gs reached coming) → ShowsReach n (flows_before_step before fs) reached coming
before_shown n fs (Some gs) reached coming some shows = shows
before_shown n fs None reached coming some shows = absurd (false≢true some)

pub HasReachRows-back : (t : UndoableFlows) (reached coming reached' coming' : UndoableRows) → IsSome t.before_step
    → HasReachRows t reached coming → IsBack reached reached'.rows → reached'.before ≡ reached.before → reached'.changed ≡ set.empty
    → IsBack coming coming'.rows → coming'.before ≡ coming.before → coming'.changed ≡ set.empty
    → HasReachRows (undone t) reached' coming'
HasReachRows-back t reached coming reached' coming' some rows back room changed back' room' changed' = record {
  reached_fits = fits_same t.size reached reached' rows.reached_fits back.same_length (ap length room) changed;
  coming_fits = fits_same t.size coming coming' rows.coming_fits back'.same_length (ap length room') changed';
  now = ShowsReach-as t.size (flows_before_step t.before_step t.flows) (row_before reached) (row_before coming) (row_now reached') (row_now coming')
      (before_shown t.size t.flows t.before_step (row_before reached) (row_before coming) some rows.before)
      (λ i below. back.back i (omega (arith, below, rows.reached_fits.rows_length)))
      (λ i below. back'.back i (omega (arith, below, rows.coming_fits.rows_length)));
  before = tt;
}

-- ---- the empty set

pub HasReachRows-nothing : (n : ℕ) (t : UndoableFlows) (reached coming : UndoableRows) → n ≤ 256
    → t ≡ record { size = n; flows = []; before_step = None }
    → reached ≡ record { rows = replicate n set.empty; before = replicate n set.empty; changed = set.empty }
    → coming ≡ record { rows = replicate n set.empty; before = replicate n set.empty; changed = set.empty }
    → HasReachRows t reached coming
HasReachRows-nothing n t reached coming small t_is reached_is coming_is =
    let r : UndoableRows = record { rows = replicate n set.empty; before = replicate n set.empty; changed = set.empty } in
    let fits : FitsRows r n = record {
      small = small;
      rows_length = length-replicate n _;
      before_length = length-replicate n _;
      changed_below = λ i there. absurd (false≢true (sym (set.contains-empty nat_cmp i) ∙ there));
    } in
    subst (λ (s : UndoableFlows). HasReachRows s reached coming) (sym t_is)
    (subst (λ (x : UndoableRows). HasReachRows (record { size = n; flows = []; before_step = None }) x coming) (sym reached_is)
    (subst (λ (x : UndoableRows). HasReachRows (record { size = n; flows = []; before_step = None }) r x) (sym coming_is)
    (record {
      reached_fits = fits;
      coming_fits = fits;
      now = record {
        is_set = IsFlowSet-nothing n small;
        forth = λ i j below. tells_nothing n (has []) i j i j (λ f. refl) below;
        back = λ i j below. tells_nothing n (has []) j i i j (λ f. refl) below;
      };
      before = tt;
    })))
