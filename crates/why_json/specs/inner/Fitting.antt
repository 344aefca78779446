-- Parts of answers that name hosts and invariants of a network.
use Rattle.std.specs.Prelude.{◌<◌, All, length}
use Rattle.std.specs.Option.{ForSome}
use Rattle.flow_set.specs.Flow.{IsFlow}
use Rattle.flow_set.specs.inner.FlowSetView.{IsFlowSet}
use Rattle.net_core.specs.Network.{Network}
use Rattle.net_core.specs.Policies.{IsPolicyOf, Policy}
use Rattle.explain_core.specs.declared.finding.Finding.{Finding}
use Rattle.explain_core.specs.declared.reason.Reason.{Reason}
use Rattle.why_json.specs.declared.explanation.Explanation.{Explanation}
use Rattle.why_json.specs.declared.offence.Offence.{Offence}

-- The invariant and the flows of a reason are of the network.
pub record FitsReason (d : Network) (r : Reason) : Type 0 where
  pub number : r.number < length d.invariants
  pub flows : IsFlowSet (length d.hosts) r.by.flows

-- The flow and the reasons of an explanation are of the network.
pub record FitsExplanation (d : Network) (x : Explanation) : Type 0 where
  pub flow : IsFlow (length d.hosts) x.standing.flow
  pub denied_by : All (FitsReason d) x.denied_by.items
  pub answers_denied_by : All (FitsReason d) x.answers_denied_by.items

-- The flow and the invariants of a finding are of the network.
pub record FitsFinding (d : Network) (x : Finding) : Type 0 where
  pub flow : IsFlow (length d.hosts) x.flow
  pub by : All (λ number. number < length d.invariants) x.by.items

-- The same, and the policy is that of the network.
pub record FitsPair (d : Network) (policy : Policy) (x : Finding) : Type 0 where
  pub is_policy : IsPolicyOf d policy
  pub finding : FitsFinding d x

-- The invariant and the flows of an offence are of the network.
pub record FitsOffence (d : Network) (x : Offence) : Type 0 where
  pub number : x.number < length d.invariants
  pub flows : ForSome x.flows (λ set. IsFlowSet (length d.hosts) set.flows)
