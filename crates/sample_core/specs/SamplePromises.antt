-- The guarantees of the report of the sample to an operator. They follow from the definition of the report.
use Rattle.std.specs.Prelude.{◌≡◌, ℕ, List, length}
use Rattle.net_core.specs.Policies.{CompliesWithAll, MeetsAll}
use Rattle.pkt_core.specs.Expected.{AreExpected}
use Rattle.pkt_core.specs.FlowPolicy.{permits, permits_reply_to}
use Rattle.report_core.specs.FlowPolicies.{flow_policy_of}
use Rattle.sample_core.specs.Sample.{Found, sample_events, sample_text}

-- The numbers are those of a network of n hosts, the one that the table of the sample describes, and of its policy, which satisfies every
-- invariant and complies with every invariant with its answers. The number of forwarded packets is the number that the policy and its
-- answers expect, packet by packet from an empty connection table.
pub record ReportsSample (n : ℕ) (report : List ℕ) : Type 0 where
  pub found : Found n
  pub written : report ≡ sample_text n found
  pub hosts : length found.network.hosts ≡ n
  pub meets : MeetsAll found.network found.policy.permitted.flows
  pub complies : CompliesWithAll found.network found.policy
  pub expected : AreExpected (permits (flow_policy_of found.network found.policy)) (permits_reply_to (flow_policy_of found.network found.policy))
      (sample_events n) found.results
