-- Invariants with a trial of each, and changes of the flows of the trials.
use Rattle.std.specs.Prelude.{◌≡◌, ℕ, ◌<◌, Bool, List, All, filter, length, map, slice_index_or}
use Rattle.flow_set.specs.declared.flow.Flow.{Flow}
use Rattle.flow_set.specs.Flow.{IsFlow}
use Rattle.flow_set.specs.inner.Steps.{UndoableFlows}

-- An invariant and its trial.
pub record Tried (X T : Type 0) : Type 0 where
  pub invariant : X
  pub trial : T

-- The trial belongs to its invariant, which holds for the flows of the trial, and f is a flow between its hosts.
pub record CanTake {X T : Type 0} (size_of : X → ℕ) (HoldsOn : X → List Flow → Type 0) (Fits : X → T → Type 0) (tried : T → UndoableFlows) (f : Flow) (t : Tried X T) : Type 0 where
  pub fits : Fits t.invariant t.trial
  pub flow : IsFlow (size_of t.invariant) f
  pub held : HoldsOn t.invariant (tried t.trial).flows

abbrev pub invariants_of : {X T : Type 0} → List (Tried X T) → List X
invariants_of trials = map (λ t. t.invariant) trials

-- Each trial belongs to its invariant.
abbrev pub AllFit : {X T : Type 0} → (X → T → Type 0) → List (Tried X T) → Type 0
AllFit Fits trials = All (λ t. Fits t.invariant t.trial) trials

-- The chosen invariants, in order, have trials that belong to them, and the flows of each trial are e.
pub record ChosenTried {X T : Type 0} (Fits : X → T → Type 0) (tried : T → UndoableFlows) (chosen : X → Bool) (invs : List X) (trials : List (Tried X T)) (e : List Flow) : Type 0 where
  pub invariants : invariants_of trials ≡ filter chosen invs
  pub fits : AllFit Fits trials
  pub flows : All (λ t. (tried t.trial).flows ≡ e) trials

-- The trials still belong to the same invariants, and the flows of each trial are changed by `become`.
pub record AllStep {X T : Type 0} (Fits : X → T → Type 0) (tried : T → UndoableFlows) (become : List Flow → List Flow) (old new : List (Tried X T)) : Type 0 where
  pub counted : length new ≡ length old
  pub invariants : invariants_of new ≡ invariants_of old
  pub fits : AllFit Fits new
  pub flows : (k : ℕ) (t : Tried X T) → k < length old
      → (tried (slice_index_or new k t).trial).flows ≡ become (tried (slice_index_or old k t).trial).flows
