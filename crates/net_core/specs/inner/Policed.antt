-- A network with its policy, and the evaluation that is stored with them.
use Rattle.net_core.specs.inner.Fitting.{IsNetwork}
use Rattle.net_core.specs.Network.{Network}
use Rattle.net_core.specs.Policies.{IsPolicyOf, IsEdgeWiseNetwork, Policy}
use Rattle.net_core.specs.FailingFlows.{AreFailing}
use Rattle.net_core.specs.inner.FailingFlows.{AreFailingFlows}
use Rattle.net_core.specs.declared.evaluation.Evaluation.{Evaluation}

pub record Policed : Type 0 where
  pub network : Network
  pub policy : Policy

abbrev pub policy_in : Evaluation → Policy
policy_in j = record { permitted = j.permitted; stateful = j.stateful }

-- The policy is that of the network; `failed` is the number of its invariants that fail on the requested flows; and `failing` lists the
-- flows on which each fails, if all are edge-wise.
pub record IsEvaluation (d : Network) (j : Evaluation) : Type 0 where
  pub network : IsNetwork d
  pub is_policy : IsPolicyOf d (policy_in j)
  pub failed : AreFailing d.invariants d.asked.flows j.failed
  pub failing : IsEdgeWiseNetwork d → AreFailingFlows d j.failing.items
