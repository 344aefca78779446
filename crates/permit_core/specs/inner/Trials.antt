-- Lists of invariants with a trial of each. The two lists are parallel: elements with equal indices belong together.
use Rattle.std.specs.Prelude.{◌≡◌, ℕ, ◌<◌, Bool, List, All, length, slice_index_or, IsTrue}
use Rattle.flow_set.specs.declared.flow.Flow.{Flow}
use Rattle.flow_set.specs.inner.Steps.{UndoableFlows}

-- The relation holds for the two elements at each index of the first list.
abbrev pub EachPair : {X T : Type 0} → (X → T → Type 0) → List X → List T → Type 0
EachPair R xs ts = (k : ℕ) (x : _) (t : _) → k < length xs → R (slice_index_or xs k x) (slice_index_or ts k t)

-- Each invariant has a trial that belongs to it, and the flows of each trial are e.
pub record AreTried {X T : Type 0} (Fits : X → T → Type 0) (tried : T → UndoableFlows) (invs : List X) (trials : List T) (e : List Flow) : Type 0 where
  pub counted : length trials ≡ length invs
  pub fits : EachPair Fits invs trials
  pub flows : EachPair (λ _ t. (tried t).flows ≡ e) invs trials

-- The chosen invariants hold for the flows e.
abbrev pub ChosenHold : {X : Type 0} → (X → Bool) → (X → List Flow → Type 0) → List X → List Flow → Type 0
ChosenHold chosen HoldsOn invs e = All (λ inv. IsTrue (chosen inv) → HoldsOn inv e) invs
