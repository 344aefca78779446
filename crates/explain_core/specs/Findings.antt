-- Flows, each with all invariants that deny it or its answers.
use Rattle.std.specs.Prelude.{◌≡◌, ℕ, Bool, List, All, map}
use Rattle.flow_set.specs.declared.flow.Flow.{Flow}
use Rattle.flow_set.specs.FlowSet.{without}
use Rattle.inv_law.specs.declared.strategy.Strategy.{Strategy}
use Rattle.explain_core.specs.Failing.{AreDenying, AreDenyingAnswers}
use Rattle.explain_core.specs.declared.finding.Finding.{Finding}

-- The findings are for the wanted flows, in order, each with the numbers of the invariants that deny it.
pub record AreFindings (Denies : Flow → List ℕ → Type 0) (wanted : List Flow) (found : List Finding) : Type 0 where
  pub flows : map (λ finding. finding.flow) found ≡ wanted
  pub each : All (λ finding. Denies finding.flow finding.by.items) found

-- The findings are for the wanted flows, each with all invariants that deny it given the permitted flows p.
abbrev pub AreDenials : {X : Type 0} → (X → List Flow → Type 0) → List X → (wanted p : List Flow) → List Finding → Type 0
AreDenials HoldsOn invs wanted p found = AreFindings (AreDenying HoldsOn invs p) wanted found

-- The findings are for the flows of p that are not in the stateful flows s, each with all strict invariants that deny its answers.
abbrev pub AreAnswerDenials : {X : Type 0} → (X → Strategy) → (X → Bool) → (X → List Flow → Type 0) → List X → (p s : List Flow) → List Finding → Type 0
AreAnswerDenials strategy_of edge_mark HoldsOn invs p s found = AreFindings (AreDenyingAnswers strategy_of edge_mark HoldsOn invs p s) (without p s) found
