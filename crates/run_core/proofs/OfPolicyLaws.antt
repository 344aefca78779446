-- Properties of the policy of a network: it is one, so they hold for it together.
use Rattle.std.proofs.Common.{subst}
use Rattle.audit_core.specs.Sides.{AreEquivalent, Sides, sides_of}
use Rattle.net_core.proofs.PolicyLaws.{policy_is_one}
use Rattle.net_core.specs.Network.{Network}
use Rattle.net_core.specs.Policies.{Policy}
use Rattle.pkt_core.proofs.AnyTrackingLaws.{forwards_only_expected}
use Rattle.pkt_core.specs.Firewall.{Filter}
use Rattle.pkt_core.specs.FlowPolicy.{FlowPolicy}
use Rattle.report_core.specs.FlowPolicies.{flow_policy_of}
use Rattle.rules_space.specs.Rules.{AnyRules, filter_of}
use Rattle.run_core.specs.Filters.{AreEquivalentFilters}
use Rattle.run_core.specs.OfPolicy.{ForwardsForNetwork, OfPolicy, OfSides}
use Rattle.run_core.proofs.EquivalentLaws.{forwards_alike}

-- Properties of the policy of one hold for the policy of the other.
pub moved : (d : Network) (P Q : FlowPolicy → Type 0) (a : OfPolicy d P) (b : OfPolicy d Q)
    → P (flow_policy_of d b.policy)
moved d P Q a b =
    subst (λ (policy : Policy). P (flow_policy_of d policy)) (policy_is_one d a.policy b.policy a.is_policy b.is_policy) a.so

-- A policy of the network, and the rules.
abbrev pub sides_for : Network → AnyRules → Policy → Sides
sides_for d rules policy = sides_of (flow_policy_of d policy) rules

-- Properties of the sides of one hold for the sides of the other.
pub sides_moved : (d : Network) (rules : AnyRules) (Holds Other : Sides → Type 0) (p : OfSides d rules Holds) (q : OfSides d rules Other) → Holds (sides_for d rules q.policy)
sides_moved d rules Holds Other p q = moved d (λ policy. Holds (sides_of policy rules)) (λ policy. Other (sides_of policy rules)) p q

-- If rules forward what the policy expects, a filter with the same verdicts forwards that, and with any connection tracking only that.
pub forwards_for : (d : Network) (rules : AnyRules) (filter : Filter) → AreEquivalentFilters (filter_of rules) filter → OfSides d rules AreEquivalent → ForwardsForNetwork d filter
forwards_for d rules filter alike agree =
    let forwards = forwards_alike (filter_of rules) filter alike (flow_policy_of d agree.policy) agree.so in
    record {
      policy = agree.policy;
      is_policy = agree.is_policy;
      so = (forwards, forwards_only_expected filter (flow_policy_of d agree.policy) forwards);
    }
