-- Lemmas on invariants with a trial of each: facts about chosen invariants, and changes of the flows of the trials.
use Rattle.std.proofs.Common.{◌≡◌, ℕ, ◌<◌, ◌+◌, Bool, true, false, not, ◌&&◌, List, [], ◌∷◌, ◌++◌, length, cond, inl, inr, refl, sym, ◌∙◌, ap, append-nil, subst, arith, get_or, set, take}
use Rattle.std.specs.Prelude.{◌↔◌, IsFalse, IsTrue, All, filter}
use Rattle.std.proofs.Math.Seq.{map-set_same}
use Rattle.std.proofs.lemmas.Bool.{and_parts, cases_eq, false≢true}
use Rattle.std.proofs.lemmas.List.{get_or-map, get_or-set_same, get_or-set_other, get_or_read, length-map, length-set, map-append}
use Rattle.std.proofs.lemmas.List.Elements.{All-cons, All-head, All-tail, All-filter, All-map, All-push, All-set, filter_more, filter_passes}
use Rattle.flow_set.specs.declared.flow.Flow.{Flow}
use Rattle.flow_set.specs.Flow.{IsFlow}
use Rattle.flow_set.specs.FlowSet.{with_flow}
use Rattle.flow_set.specs.inner.FlowSetView.{IsFlowSet}
use Rattle.flow_set.specs.inner.Downward.{IsEdgeWise}
use Rattle.flow_set.specs.inner.Steps.{UndoableFlows}
use Rattle.flow_set.proofs.ConditionLaws.{edge_wise-with_flow}
use Rattle.permit_core.specs.inner.Tried.{AllStep, CanTake, ChosenTried, Tried, invariants_of}
use Rattle.permit_core.specs.inner.Trials.{ChosenHold}

-- ---- chosen invariants and those that have trials

-- What holds for each element that satisfies the test.
All-filtered : {X : Type 0} (test : X → Bool) (P : X → Type 0) (xs : List X) → All P (filter test xs) → All (λ x. IsTrue (test x) → P x) xs
All-filtered test P [] all = λ k d below. absurd (omega arith)
All-filtered test P (x ∷ xs) all =
    let parts = split (test x) (filter test xs) all in
    All-cons (λ y. IsTrue (test y) → P y) x xs parts.0 (All-filtered test P xs parts.1)
  where
    split : (b : Bool) (ys : List _) → All P (cond b (x ∷ ys) ys) → (IsTrue b → P x) × All P ys
    split true ys all = (λ _. All-head P x ys all, All-tail P x ys all)
    split false ys all = (λ impossible. absurd (false≢true impossible), all)

-- What holds for each invariant with a trial holds for each chosen invariant.
pub All-tried : {X T : Type 0} (P : X → Type 0) (chosen : X → Bool) (invs : List X) (trials : List (Tried X T))
    → invariants_of trials ≡ filter chosen invs
    → All (λ t. P t.invariant) trials ↔ All (λ inv. IsTrue (chosen inv) → P inv) invs
All-tried P chosen invs trials same = (
  λ each. All-filtered chosen P invs (subst (All P) same (All-map P (λ t. t.invariant) trials each)),
  λ all k d below.
      let there : k < length (invariants_of trials) = omega (arith, below, length-map trials (λ (t : Tried _ _). t.invariant)) in
      subst P (get_or-map (λ t. t.invariant) trials k d d.invariant below)
      (subst (All P) (sym same) (λ j x within. All-filter chosen (λ inv. IsTrue (chosen inv) → P inv) invs all j x within (filter_passes chosen invs j x within)) k d.invariant there),
)

-- ---- changes of the flows of trials

-- One change followed by another.
pub AllStep-then : {X T : Type 0} (Fits : X → T → Type 0) (tried : T → UndoableFlows) (become : List Flow → List Flow) (old mid new : List (Tried X T))
    → AllStep Fits tried (λ fs. fs) old mid → AllStep Fits tried become mid new → AllStep Fits tried become old new
AllStep-then Fits tried become old mid new first then = record {
  counted = then.counted ∙ first.counted;
  invariants = then.invariants ∙ first.invariants;
  fits = then.fits;
  flows = λ k t below. then.flows k t (omega (arith, below, first.counted)) ∙ ap become (first.flows k t below);
}

-- The invariant at an index is the same as before.
same_invariant : {X T : Type 0} (old new : List (Tried X T)) (k : ℕ) (t : Tried X T) → invariants_of new ≡ invariants_of old
    → k < length new → k < length old → (get_or new k t).invariant ≡ (get_or old k t).invariant
same_invariant old new k t same below there =
    sym (get_or-map (λ u. u.invariant) new k t t.invariant below) ∙ ap (λ xs. get_or xs k t.invariant) same ∙ get_or-map (λ u. u.invariant) old k t t.invariant there

-- The trials can take a flow as before if their flows are unchanged.
pub CanTake-again : {X T : Type 0} (size_of : X → ℕ) (HoldsOn : X → List Flow → Type 0) (Fits : X → T → Type 0) (tried : T → UndoableFlows) (f : Flow) (old new : List (Tried X T))
    → AllStep Fits tried (λ fs. fs) old new → All (CanTake size_of HoldsOn Fits tried f) old → All (CanTake size_of HoldsOn Fits tried f) new
CanTake-again size_of HoldsOn Fits tried f old new same can k t below =
    let there : k < length old = omega (arith, below, same.counted) in
    let inv : (get_or new k t).invariant ≡ (get_or old k t).invariant = same_invariant old new k t same.invariants below there in
    record {
      fits = same.fits k t below;
      flow = subst (λ x. IsFlow (size_of x) f) (sym inv) (can k t there).flow;
      held = subst (λ x. HoldsOn x (tried (get_or new k t).trial).flows) (sym inv) (subst (HoldsOn (get_or old k t).invariant) (sym (same.flows k t there)) (can k t there).held);
    }

-- An invariant holds for one more flow if it did for the previous flows of its trial.
pub holds_again : {X T : Type 0} (HoldsOn : X → List Flow → Type 0) (Fits : X → T → Type 0) (tried : T → UndoableFlows) (f : Flow) (old new : List (Tried X T)) (i : ℕ) (t : Tried X T)
    → AllStep Fits tried (λ fs. fs) old new → i < length old → t ≡ get_or new i t
    → HoldsOn t.invariant (with_flow (tried t.trial).flows f) ↔ HoldsOn (get_or old i t).invariant (with_flow (tried (get_or old i t).trial).flows f)
holds_again HoldsOn Fits tried f old new i t same below read =
    let there : i < length new = omega (arith, below, same.counted) in
    let inv : t.invariant ≡ (get_or old i t).invariant = ap (λ u. u.invariant) read ∙ same_invariant old new i t same.invariants there below in
    let flows : (tried t.trial).flows ≡ (tried (get_or old i t).trial).flows = ap (λ u. (tried u.trial).flows) read ∙ same.flows i t below in (
      λ holds. subst (λ x. HoldsOn x (with_flow (tried (get_or old i t).trial).flows f)) inv (subst (λ fs. HoldsOn t.invariant (with_flow fs f)) flows holds),
      λ holds. subst (λ fs. HoldsOn t.invariant (with_flow fs f)) (sym flows) (subst (λ x. HoldsOn x (with_flow (tried (get_or old i t).trial).flows f)) (sym inv) holds),
    )

-- The trials after one of them was tested and its flows were restored.
pub AllStep-asked : {X T : Type 0} (Fits : X → T → Type 0) (tried : T → UndoableFlows) (old trials : List (Tried X T)) (i : ℕ) (t new : Tried X T)
    → AllStep Fits tried (λ fs. fs) old trials → i < length trials → t ≡ get_or trials i t → new.invariant ≡ t.invariant
    → Fits new.invariant new.trial → (tried new.trial).flows ≡ (tried t.trial).flows → AllStep Fits tried (λ fs. fs) old (set trials i new)
AllStep-asked Fits tried old trials i t new same within read inv fits flows = record {
  counted = length-set trials i new ∙ same.counted;
  invariants = map-set_same (λ u. u.invariant) trials i new t (inv ∙ ap (λ u. u.invariant) read) ∙ same.invariants;
  fits = All-set (λ u. Fits u.invariant u.trial) trials i new fits same.fits;
  flows = λ k u below. elim (cases_eq k i) [
    | inl here ↦
        ap (λ v. (tried v.trial).flows) (ap (λ j. get_or (set trials i new) j u) here ∙ get_or-set_same trials i new u within)
        ∙ flows
        ∙ ap (λ v. (tried v.trial).flows) (get_or_read trials i t within read u ∙ ap (λ j. get_or trials j u) (sym here))
        ∙ same.flows k u below
    | inr other ↦ ap (λ v. (tried v.trial).flows) (get_or-set_other trials i k new u other) ∙ same.flows k u below
  ];
}

-- The trials of the chosen invariants after a step that all of them take, or that none of them takes.
pub ChosenTried-step : {X T : Type 0} (Fits : X → T → Type 0) (tried : T → UndoableFlows) (chosen : X → Bool) (invs : List X) (old new : List (Tried X T)) (e : List Flow) (f : Flow) (b : Bool)
    → ChosenTried Fits tried chosen invs old e → AllStep Fits tried (λ fs. cond b (with_flow fs f) fs) old new
    → ChosenTried Fits tried chosen invs new (cond b (with_flow e f) e)
ChosenTried-step Fits tried chosen invs old new e f b are step = record {
  invariants = step.invariants ∙ are.invariants;
  fits = step.fits;
  flows = λ k t below.
      let there : k < length old = omega (arith, below, step.counted) in
      step.flows k t there ∙ ap (λ fs. cond b (with_flow fs f) fs) (are.flows k t there);
}

-- ---- creation of trials

pub ChosenTried-with : {X T : Type 0} (Fits : X → T → Type 0) (tried : T → UndoableFlows) (chosen : X → Bool) (invs : List X) (trials : List (Tried X T)) (e : List Flow) (i : ℕ) (inv : X) (new : Tried X T)
    → ChosenTried Fits tried chosen (take i invs) trials e → i < length invs → inv ≡ get_or invs i inv → IsTrue (chosen inv)
    → new.invariant ≡ inv → Fits inv new.trial → (tried new.trial).flows ≡ e → ChosenTried Fits tried chosen (take (i + 1) invs) (trials ++ new ∷ []) e
ChosenTried-with Fits tried chosen invs trials e i inv new are within read is same fits flows =
    let one : (new.invariant ∷ []) ≡ cond (chosen (get_or invs i inv)) (get_or invs i inv ∷ []) [] =
    subst (λ x. (new.invariant ∷ []) ≡ cond (chosen x) (x ∷ []) []) read (rw is (ap (λ x. x ∷ []) same)) in
    record {
      invariants = map-append (λ u. u.invariant) trials (new ∷ []) ∙ ap (λ xs. xs ++ new.invariant ∷ []) are.invariants ∙ ap (λ xs. filter chosen (take i invs) ++ xs) one ∙ sym (filter_more chosen invs i inv within);
      fits = All-push (λ u. Fits u.invariant u.trial) trials new are.fits (subst (λ x. Fits x new.trial) (sym same) fits);
      flows = All-push (λ u. (tried u.trial).flows ≡ e) trials new are.flows flows;
    }

pub ChosenTried-skip : {X T : Type 0} (Fits : X → T → Type 0) (tried : T → UndoableFlows) (chosen : X → Bool) (invs : List X) (trials : List (Tried X T)) (e : List Flow) (i : ℕ) (inv : X)
    → ChosenTried Fits tried chosen (take i invs) trials e → i < length invs → inv ≡ get_or invs i inv → IsFalse (chosen inv)
    → ChosenTried Fits tried chosen (take (i + 1) invs) trials e
ChosenTried-skip Fits tried chosen invs trials e i inv are within read out =
    let none : [] ≡ cond (chosen (get_or invs i inv)) (get_or invs i inv ∷ []) [] =
    subst (λ x. [] ≡ cond (chosen x) (x ∷ []) []) read (rw out refl) in
    record {
      invariants = are.invariants ∙ sym (append-nil (filter chosen (take i invs))) ∙ ap (λ xs. filter chosen (take i invs) ++ xs) none ∙ sym (filter_more chosen invs i inv within);
      fits = are.fits;
      flows = are.flows;
    }

-- ---- one more flow

-- The chosen invariants that are not edge-wise can take a flow if all chosen ones hold so far.
pub CanTake-chosen : {X T : Type 0} (n : ℕ) (size_of : X → ℕ) (HoldsOn : X → List Flow → Type 0) (Fits : X → T → Type 0) (tried : T → UndoableFlows) (chosen mark : X → Bool) (invs : List X) (trials : List (Tried X T)) (e : List Flow) (f : Flow)
    → All (λ inv. size_of inv ≡ n) invs → IsFlow n f → ChosenHold chosen HoldsOn invs e
    → ChosenTried Fits tried (λ inv. chosen inv && not (mark inv)) invs trials e → All (CanTake size_of HoldsOn Fits tried f) trials
CanTake-chosen n size_of HoldsOn Fits tried chosen mark invs trials e f sizes flow hold are k t below =
    let tried_ones = λ (x : _). chosen x && not (mark x) in
    let flows_fit = (All-tried (λ inv. IsFlow (size_of inv) f) tried_ones invs trials are.invariants).1
    (λ j x within _. subst (λ m. IsFlow m f) (sym (sizes j x within)) flow) in
    let held = (All-tried (λ inv. HoldsOn inv e) tried_ones invs trials are.invariants).1
    (λ j x within is. hold j x within (and_parts _ _ is).0) in
    record {
      fits = are.fits k t below;
      flow = flows_fit k t below;
      held = subst (HoldsOn (get_or trials k t).invariant) (sym (are.flows k t below)) (held k t below);
    }

-- The chosen invariants, which hold so far, hold with one more flow if the edge-wise ones hold for this flow individually, and the others
-- hold for the flows of their trials with this flow.
pub ChosenHold-step : {X T : Type 0} (n : ℕ) (HoldsOn : X → List Flow → Type 0) (Fits : X → T → Type 0) (tried : T → UndoableFlows) (chosen mark : X → Bool) (invs : List X) (trials : List (Tried X T)) (e : List Flow) (f : Flow)
    → All (λ inv. IsTrue (mark inv) → IsEdgeWise n (HoldsOn inv)) invs → IsFlowSet n e → IsFlow n f → ChosenHold chosen HoldsOn invs e
    → ChosenTried Fits tried (λ inv. chosen inv && not (mark inv)) invs trials e
    → (ChosenHold (λ inv. chosen inv && mark inv) HoldsOn invs (f ∷ []) × All (λ t. HoldsOn t.invariant (with_flow (tried t.trial).flows f)) trials)
    ↔ ChosenHold chosen HoldsOn invs (with_flow e f)
ChosenHold-step n HoldsOn Fits tried chosen mark invs trials e f right set flow hold are =
    let law = All-tried (λ inv. HoldsOn inv (with_flow e f)) (λ inv. chosen inv && not (mark inv)) invs trials are.invariants in
    let more = λ (k : ℕ) (x : _) (below : k < length invs) (is : IsTrue (chosen (get_or invs k x))) (alone : IsTrue (mark (get_or invs k x))).
    edge_wise-with_flow n (HoldsOn (get_or invs k x)) e f (right k x below alone) set flow (hold k x below is) in (
      λ both k x below is.
          by_mark (HoldsOn (get_or invs k x) (with_flow e f)) (chosen (get_or invs k x)) (mark (get_or invs k x)) is
          (λ alone. (more k x below is alone).0 (both.0 k x below (both_true _ _ is alone)))
          (law.0 (λ j t within. subst (λ fs. HoldsOn (get_or trials j t).invariant (with_flow fs f)) (are.flows j t within) (both.1 j t within)) k x below),
      λ all. (
        λ k x below is. let parts = and_parts _ _ is in (more k x below parts.0 parts.1).1 (all k x below parts.0),
        λ j t within. subst (λ fs. HoldsOn (get_or trials j t).invariant (with_flow fs f)) (sym (are.flows j t within)) (law.1 (λ k x below is. all k x below (and_parts _ _ is).0) j t within),
      ),
    )
  where
    both_true : (a b : Bool) → IsTrue a → IsTrue b → IsTrue (a && b)
    both_true a b p q = rw (p, q) refl

    by_mark : (Goal : Type 0) (a b : Bool) → IsTrue a → (IsTrue b → Goal) → (IsTrue (a && not b) → Goal) → Goal
    by_mark Goal true true is alone together = alone refl
    by_mark Goal true false is alone together = together refl
    by_mark Goal false b is alone together = absurd (false≢true is)
