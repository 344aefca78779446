-- The reasons why a flow or its answers are denied: all invariants that fail with it, each with a minimal failing set.
use Rattle.std.specs.Prelude.{◌≡◌, Bool, true, List, All, map, slice_get, Some}
use Rattle.flow_set.specs.declared.flow.Flow.{Flow}
use Rattle.flow_set.specs.Flow.{reverse_of}
use Rattle.flow_set.specs.FlowSet.{with_flow, with_back}
use Rattle.inv_law.specs.declared.strategy.Strategy.{Strategy}
use Rattle.state_core.specs.Stateful.{is_strict}
use Rattle.explain_core.specs.Failing.{AreFailing, IsLeastFailing, IsMinimalFailing}
use Rattle.explain_core.specs.declared.reason.Reason.{Reason}

-- The reasons are all chosen invariants that fail on e, in ascending order, each with the least failing set of e, which is minimal. So the
-- list of reasons of e is unique (ReasonLaws: reasons_are_one).
pub record AreReasons {X : Type 0} (chosen : X → Bool) (HoldsOn : X → List Flow → Type 0) (invs : List X) (e : List Flow) (reasons : List Reason) : Type 0 where
  pub failing : AreFailing chosen HoldsOn invs e (map (λ reason. reason.number) reasons)
  pub minimal : All (λ reason. (inv : X) → slice_get invs reason.number ≡ Some inv → IsMinimalFailing (HoldsOn inv) e reason.by.flows) reasons
  pub least : All (λ reason. (inv : X) → slice_get invs reason.number ≡ Some inv → IsLeastFailing (HoldsOn inv) e reason.by.flows) reasons

-- The reasons deny the flow f given the permitted flows p: they are all invariants that fail on p with f.
abbrev pub DenyFlow : {X : Type 0} → (X → List Flow → Type 0) → List X → (p : List Flow) → (f : Flow) → List Reason → Type 0
DenyFlow HoldsOn invs p f reasons = AreReasons (λ _. true) HoldsOn invs (with_flow p f) reasons

-- The reasons deny the answers of f given the permitted flows p and the answers of the stateful flows s: they are all strict
-- invariants that fail on these with the answer of f.
abbrev pub DenyAnswers : {X : Type 0} → (X → Strategy) → (X → Bool) → (X → List Flow → Type 0) → List X → (p s : List Flow) → (f : Flow) → List Reason → Type 0
DenyAnswers strategy_of edge_mark HoldsOn invs p s f reasons =
    AreReasons (λ inv. is_strict (strategy_of inv) (edge_mark inv)) HoldsOn invs (with_flow (with_back p s) (reverse_of f)) reasons
