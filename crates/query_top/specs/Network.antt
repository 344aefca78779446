-- `network FILE`: all that the description and its policy say of hosts, invariants and flows.
use Rattle.std.specs.Prelude.{ℕ, List}
use Rattle.net_core.specs.Network.{Network}
use Rattle.net_core.specs.Policies.{IsPolicyOf, Policy}
use Rattle.why_json.specs.Gaps.{GapsArePermitted}
use Rattle.why_json.specs.NetworkText.{IsNetworkText}
use Rattle.run_core.specs.Outcomes.{Outcomes, writes}

-- The text is the answer by the policy of the network. If the network requested one of the gaps too, it would permit the gap and all flows
-- that it permits now.
pub record IsNetworkAnswer (d : Network) (text : List ℕ) : Type 0 where
  pub policy : Policy
  pub is_policy : IsPolicyOf d policy
  pub written : IsNetworkText d policy text
  pub gaps : GapsArePermitted d policy written.denials

abbrev pub network_outcomes : Network → Outcomes
network_outcomes d = writes (IsNetworkAnswer d) (IsNetworkAnswer d)
