-- Stateful flows: the invariants that answers could violate, and compliance of a policy with an invariant if answers pass. After C.
-- Diekmann, Provably Secure Networks: Methodology and Toolset for Configuration Management, and the stateful policies of
-- Network_Security_Policy_Verification in the Archive of Formal Proofs.
use Rattle.std.specs.Prelude.{Bool, true, not, List, All, IsTrue, IsFalse}
use Rattle.flow_set.specs.declared.flow.Flow.{Flow}
use Rattle.flow_set.specs.Flow.{reverse_of}
use Rattle.flow_set.specs.FlowSet.{has, IsSubset, with_back}
use Rattle.flow_set.specs.Conditions.{IsMinimalOffending}
use Rattle.inv_law.specs.declared.strategy.Strategy.{Strategy}
use Rattle.inv_law.specs.declared.strategy.Strategy.TheVariants.{Access, Information}

-- A strict invariant has to hold for answers as for any flow. Information-flow invariants are strict, because an answer
-- carries information. An access-control invariant is strict unless it is edge-wise, because it may count an answer as
-- part of a path. For an edge-wise one an answer is no access: its receiver requested it.
abbrev pub is_strict : Strategy → Bool → Bool
is_strict Information edge_wise = true
is_strict Access edge_wise = not edge_wise

-- Every strict invariant of the list holds for the set.
abbrev pub StrictHold : {X : Type 0} → (X → Strategy) → (X → Bool) → (X → List Flow → Type 0) → List X → List Flow → Type 0
StrictHold strategy_of edge_mark HoldsOn invs e = All (λ inv. IsTrue (is_strict (strategy_of inv) (edge_mark inv)) → HoldsOn inv e) invs

-- Each flow of f is the answer of a flow of s and is not in p itself.
abbrev pub AreAnswers : List Flow → List Flow → List Flow → Type 0
AreAnswers p s f = (g : Flow) → IsTrue (has f g) → IsTrue (has s (reverse_of g)) × IsFalse (has p g)

-- The policy p with the answers of s complies with an invariant. For information flow: the invariant holds for all of
-- these flows. For access control: every minimal offending set consists of answers.
abbrev pub Complies : Strategy → (List Flow → Type 0) → List Flow → List Flow → Type 0
Complies Information Holds p s = Holds (with_back p s)
Complies Access Holds p s = (f : List Flow) → IsMinimalOffending Holds (with_back p s) f → AreAnswers p s f

-- The stateful flows s are flows of the policy p, and p with their answers complies with each invariant.
pub record CompliesWithEach {X : Type 0} (strategy_of : X → Strategy) (HoldsOn : X → List Flow → Type 0) (invs : List X) (p s : List Flow) : Type 0 where
  pub within : IsSubset s p
  pub each : All (λ inv. Complies (strategy_of inv) (HoldsOn inv) p s) invs
