-- `rules DIALECT FILE`: the rules of the permitted policy, unless the policy was listed and violates an
-- invariant.
use Rattle.std.specs.Prelude.{◌≡◌, ℕ, List, [], ◌∷◌, IsTrue, IsFalse}
use Rattle.flow_set.specs.FlowSet.{has, with_flow}
use Rattle.flow_set.specs.declared.flow.Flow.{Flow}
use Rattle.net_core.specs.Network.{Network}
use Rattle.net_core.specs.Policies.{CompliesWithAll, IsGreatestPolicy, IsPolicyOf, IsEdgeWiseNetwork, MeetsAll, Policy}
use Rattle.pkt_core.specs.AnyTracking.{ForwardsInAnyState}
use Rattle.pkt_core.specs.Filter.{Enforces, ForwardsAsExpected}
use Rattle.report_core.specs.FlowPolicies.{flow_policy_of}
use Rattle.topos_top.specs.Check.{AskedHolds, offences_when}
use Rattle.run_core.specs.Dialects.{IsLayoutText, RuleDialect, rule_dialect_of}
use Rattle.run_core.specs.OfPolicy.{OfPolicy}
use Rattle.run_core.specs.Outcomes.{Outcomes, says_why}
use Rattle.run_core.specs.declared.dialect.Dialect.{Dialect}
use Rattle.run_core.specs.declared.status.Status.TheVariants.{Violated, NotEmittable, Done}

-- If a policy is listed, every invariant holds on it.
abbrev pub ListedHolds : Network → Type 0
ListedHolds d = IsTrue d.given → AskedHolds d

-- The text is the rules of the policy of the network: its permitted flows pass, and the answers of its stateful flows.
abbrev pub IsRules : RuleDialect → Network → (text : List ℕ) → Type 0
IsRules language d text = OfPolicy d (λ policy. IsLayoutText language policy text)

-- The properties of a policy of a network, regardless of what is emitted for it. The permitted flows are the first subset of the requested
-- flows that satisfies every invariant, and the greatest if all of them are edge-wise. Each requested flow that is omitted violates an
-- invariant together with the permitted flows. Requested flows that satisfy every invariant are permitted unchanged. The stateful flows
-- are the first whose answers violate no strict invariant, and with these answers the policy complies with every invariant.
pub record PolicyMeetsInvariants (d : Network) (policy : Policy) : Type 0 where
  pub is_policy : IsPolicyOf d policy
  pub meets : MeetsAll d policy.permitted.flows
  pub left_out : (f : Flow) → IsTrue (has d.asked.flows f) → IsFalse (has policy.permitted.flows f) → MeetsAll d (with_flow policy.permitted.flows f) → ⊥
  pub greatest : IsEdgeWiseNetwork d → IsGreatestPolicy d policy
  pub unchanged : AskedHolds d → policy.permitted.flows ≡ d.asked.flows
  pub complies : CompliesWithAll d policy

-- The guarantee of the text of the rules of a network. The policy has the properties above. The text is that of a layout of the policy, and
-- parses to exactly these rules; if they exceed the limits of the parser, it parses to nothing. From an empty connection table, for every
-- list of events with valid packets, the rules forward exactly the packets of a permitted flow and those that answer a stateful flow. For a
-- single packet in either connection state they have exactly the verdict of the policy. With any connection tracking, they forward only
-- expected packets in sound states, and all permitted packets in all states. They treat frames of other kinds, and packets in other states,
-- as the dialect specifies.
pub record EnforcesPolicyText (language : RuleDialect) (d : Network) (text : List ℕ) : Type 0 where
  pub policy : Policy
  pub invariants : PolicyMeetsInvariants d policy
  pub rules : language.Rules
  pub layout : language.IsLayout (flow_policy_of d policy) rules
  pub written : text ≡ language.text rules
  pub read : language.IsParsed rules → language.IsReading text rules
  pub only_reading : (others : language.Rules) → language.IsReading text others → others ≡ rules
  pub expected : ForwardsAsExpected (language.filter rules) (flow_policy_of d policy)
  pub enforces : Enforces (language.filter rules) (flow_policy_of d policy)
  pub in_any_state : ForwardsInAnyState (language.filter rules) (flow_policy_of d policy)
  pub other_frames : language.OtherFrames rules
  pub other_states : language.OtherStates rules

-- The rules, if the condition holds and they can be emitted; with higher precedence the line with the reason, if the condition holds and
-- they cannot.
abbrev pub rules_when : Type 0 → RuleDialect → Network → Outcomes
rules_when holds language d =
    says_why NotEmittable holds (λ line. OfPolicy d (language.CannotEmit line))
    ∷ (record { status = Done; when = holds × OfPolicy d language.CanWrite; is = IsRules language d; guarantees = EnforcesPolicyText language d }
    ∷ [])

-- The rules, or the report of `check` if a listed policy violates an invariant.
abbrev pub rules_outcomes : Dialect → Network → Outcomes
rules_outcomes dialect d = offences_when Violated (ListedHolds d → ⊥) d ∷ rules_when (ListedHolds d) (rule_dialect_of dialect) d
