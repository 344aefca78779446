-- The rules of a network are a unique text and have their guarantee; the same holds for the line with the reason why
-- there are none.
use Rattle.std.proofs.Common.{◌≡◌, ℕ, List, false, inl, refl, sym, subst, ◌∙◌, ap}
use Rattle.host_net.specs.inner.Site.{IsSite}
use Rattle.permit_core.proofs.FirstLaws.{first_with}
use Rattle.flow_set.specs.FlowSet.{SetOfFlows}
use Rattle.net_core.proofs.HeadlineLaws.{IsGreatestPolicy-from_policy, CompliesWithAll-from_policy}
use Rattle.net_core.specs.Network.{Network}
use Rattle.net_core.specs.inner.Fitting.{IsNetwork}
use Rattle.net_core.specs.Policies.{IsPolicyOf, MeetsAll, Policy}
use Rattle.net_core.proofs.PolicyLaws.{IsSubset-stateful, asked_is_permitted}
use Rattle.pkt_core.specs.Filter.{Enforces, ForwardsAsExpected}
use Rattle.pkt_core.proofs.AnyTrackingLaws.{enforced_in_any_state}
use Rattle.pkt_core.proofs.FilterLaws.{enforced_expected}
use Rattle.pkt_core.specs.FlowPolicy.{FlowPolicy}
use Rattle.report_core.specs.FlowPolicies.{flow_policy_of}
use Rattle.run_core.specs.Dialects.{IsLayoutText, RuleDialect, rule_dialect_of}
use Rattle.run_core.specs.Outcomes.{Answers}
use Rattle.topos_top.specs.Repair.{repair_outcomes}
use Rattle.run_core.specs.Reply.{Reply, error}
use Rattle.topos_top.specs.Rules.{IsRules, PolicyMeetsInvariants, EnforcesPolicyText}
use Rattle.run_core.specs.OfPolicy.{OfPolicy}
use Rattle.run_core.specs.declared.dialect.Dialect.{Dialect}
use Rattle.run_core.specs.declared.status.Status.TheVariants.{NotEmittable}
use Rattle.run_core.proofs.OfPolicyLaws.{moved}
use Rattle.run_core.proofs.DialectLaws.{IsLawful}

-- The policy of a network has its properties.
pub policy_keeps : (d : Network) (policy : Policy) → IsNetwork d → IsPolicyOf d policy → PolicyMeetsInvariants d policy
policy_keeps d policy network is = record {
  is_policy = is;
  meets = is.permitted.holds;
  left_out = λ f asked absent meets. first_with (MeetsAll d) d.asked.flows policy.permitted.flows f is.permitted asked absent meets;
  greatest = IsGreatestPolicy-from_policy d policy network is;
  unchanged = λ holds. ap (λ (set : SetOfFlows). set.flows) (asked_is_permitted d policy network holds is);
  complies = CompliesWithAll-from_policy d policy network is;
}

-- The reply if the rules cannot be emitted.
pub ends_hindered : (dialect : Dialect) (d : Network) (reply : Reply) (line : List ℕ) → reply ≡ error NotEmittable line
    → OfPolicy d ((rule_dialect_of dialect).CannotEmit line) → Answers false (repair_outcomes dialect d) reply
ends_hindered dialect d reply line is hindered = subst (λ (r : Reply). Answers false (repair_outcomes dialect d) r) (sym is) (refl, inl (refl, (tt, line, hindered), hindered))

module _ (language : RuleDialect) (laws : IsLawful language) (d : Network) where
  pub rules_are_one : language.IsExact → (a b : List ℕ) → IsRules language d a → IsRules language d b → a ≡ b
  rules_are_one exact a b p q =
      let first = moved d (λ policy. IsLayoutText language policy a) (λ policy. IsLayoutText language policy b) p q in
      let second = q.so in
      first.2 ∙ laws.one_text exact (flow_policy_of d q.policy) first.0 second.0 first.1 second.1 ∙ sym second.2

  pub never_both : (line : List ℕ) → OfPolicy d (language.CannotEmit line) → OfPolicy d language.CanWrite → ⊥
  never_both line hindered can =
      laws.apart (flow_policy_of d hindered.policy) line (moved d language.CanWrite (language.CannotEmit line) can hindered) hindered.so

  pub hindrance_is_one : (a b : List ℕ) → OfPolicy d (language.CannotEmit a) → OfPolicy d (language.CannotEmit b) → a ≡ b
  hindrance_is_one a b p q =
      laws.one_hindrance (flow_policy_of d q.policy) a b (moved d (language.CannotEmit a) (language.CannotEmit b) p q) q.so

  unfoldable pub rules_keep : (text : List ℕ) → IsNetwork d → OfPolicy d language.CanWrite → IsRules language d text → EnforcesPolicyText language d text
  rules_keep text network written is =
      let policy : FlowPolicy = flow_policy_of d is.policy in
      let known : IsSite policy.site = record { hosts = network.hosts; services = network.services } in
      let own : language.Rules = is.so.0 in
      let layout : language.IsLayout policy own = is.so.1 in
      let can : language.CanWrite policy = moved d language.CanWrite (λ other. IsLayoutText language other text) written is in
      let enforces : Enforces (language.filter own) policy = laws.enforces policy own known can layout in
      let expected : ForwardsAsExpected (language.filter own) policy =
      enforced_expected (language.filter own) policy (IsSubset-stateful d policy.permitted policy.stateful is.is_policy.stateful) enforces in
      record {
        policy = is.policy;
        invariants = policy_keeps d is.policy network is.is_policy;
        rules = own;
        layout = layout;
        written = is.so.2;
        read = λ parsed. subst (λ (bytes : List ℕ). language.IsReading bytes own) (sym is.so.2) (laws.read_again policy own known can layout parsed);
        only_reading = λ others reading. laws.only_reading policy own others known can layout (subst (λ (bytes : List ℕ). language.IsReading bytes others) is.so.2 reading);
        expected = expected;
        enforces = enforces;
        in_any_state = enforced_in_any_state (language.filter own) policy enforces;
        other_frames = laws.other_frames policy own known can layout;
        other_states = laws.other_states policy own known can layout;
      }
