-- The rules for the machines of a host are a unique text and have their guarantee; the same holds for the line with the reason why there
-- are none.
use Rattle.std.proofs.Common.{◌≡◌, inl, inr, ℕ, true, false, not, ◌==◌, List, None, Some, refl, sym, ap, subst, ◌∙◌, true≢false, arith}
use Rattle.std.specs.Prelude.{◌↔◌, Option}
use Rattle.std.specs.Option.{option_map_or}
use Rattle.std.proofs.lemmas.Bool.Decides.{nat_tests}
use Rattle.host_emit.specs.LocalLayout.{is_specific, local_layout}
use Rattle.host_net.specs.Host.{Host, rest_of}
use Rattle.host_net.specs.inner.Site.{IsSite}
use Rattle.ipt_rules.specs.Text.{text}
use Rattle.net_core.specs.inner.Fitting.{IsNetwork}
use Rattle.net_core.specs.Network.{Network}
use Rattle.net_core.specs.Policies.{IsPolicyOf, Policy}
use Rattle.net_core.proofs.PolicyLaws.{IsSubset-stateful, policy_is_one}
use Rattle.pkt_core.specs.FlowPolicy.{FlowPolicy}
use Rattle.report_core.specs.FlowPolicies.{flow_policy_of}
use Rattle.run_core.specs.Outcomes.{Answers}
use Rattle.topos_top.specs.Local.{CannotEmitLocal, NoHost, RestHost, IsLocalText, IsMachineText, IsSpecific, EnforcesPolicyLocally, LocalDialect, local_chains, local_outcomes}
use Rattle.topos_top.specs.inner.Local.{machines_outcomes}
use Rattle.run_core.specs.inner.Views.{reply_on}
use Rattle.run_core.specs.Reply.{Reply}
use Rattle.topos_top.specs.Rules.{ListedHolds}
use Rattle.run_core.specs.declared.status.Status.TheVariants.{NotEmittable, Done}
use Rattle.run_core.specs.declared.status.Stream.TheVariants.{Output}
use Rattle.topos_top.proofs.LocalDialectLaws.{IsLawfulLocal, all_expected}
use Rattle.topos_top.proofs.RulesLaws.{policy_keeps}

some_number : (i j : ℕ) → Some i ≡ Some j → i ≡ j
some_number i j h = cc

none_is_some : (o : Option ℕ) (i : ℕ) → o ≡ None → o ≡ Some i → ⊥
none_is_some o i none some = cc

-- The rest host is not specific.
rest_is_not : (hosts : List Host) (h : ℕ) → rest_of hosts ≡ Some h → is_specific hosts h ≡ false
rest_is_not hosts h rest = ap (λ (o : Option ℕ). option_map_or (λ r. not (r == h)) o true) rest ∙ itself h
  where
    itself : (n : ℕ) → not (n == n) ≡ false
    itself n = grind (arith, nat_tests)

-- A host that is not specific is the rest host.
pub is_rest : (hosts : List Host) (h : ℕ) → is_specific hosts h ≡ false → rest_of hosts ≡ Some h
is_rest hosts h other = by_rest (rest_of hosts) other
  where
    same : (r : ℕ) → not (r == h) ≡ false → r ≡ h
    same r it = grind (arith, nat_tests)

    by_rest : (o : Option ℕ) → option_map_or (λ r. not (r == h)) o true ≡ false → o ≡ Some h
    by_rest None it = absurd (true≢false it)
    by_rest (Some r) it = ap (λ (n : ℕ). Some n) (same r it)

module _ (d : Network) (host : List ℕ) where
  -- A host of that name has one number.
  one_number : (a b : IsSpecific d host) → a.number ≡ b.number
  one_number a b = some_number a.number b.number (sym a.named ∙ b.named)

  -- The text of chains of iptables is unique.
  pub chains_are_one : (a b : List ℕ) → IsLocalText local_chains d host a → IsLocalText local_chains d host b → a ≡ b
  chains_are_one a b p q =
      let policies = policy_is_one d p.policy q.policy p.is_policy q.is_policy in
      let numbers = one_number p.so.0 q.so.0 in
      p.so.1.2 ∙ ap text p.so.1.1 ∙ (λ i. text (local_layout (flow_policy_of d (policies i)) (numbers i))) ∙ sym (q.so.1.2 ∙ ap text q.so.1.1)

  pub bar_is_one : (a b : List ℕ) → CannotEmitLocal d host a → CannotEmitLocal d host b → a ≡ b
  bar_is_one a b (NoHost none is) (NoHost also same) = is ∙ sym same
  bar_is_one a b (NoHost none is) (RestHost h named rest same) = absurd (none_is_some _ h none named)
  bar_is_one a b (RestHost h named rest is) (NoHost none same) = absurd (none_is_some _ h none named)
  bar_is_one a b (RestHost h named rest is) (RestHost k also other same) = is ∙ sym same

  pub specific_or_barred : (line : List ℕ) → CannotEmitLocal d host line → IsSpecific d host → ⊥
  specific_or_barred line (NoHost none is) found = none_is_some _ found.number none found.named
  specific_or_barred line (RestHost h named rest is) found =
      let same = some_number h found.number (sym named ∙ found.named) in
      true≢false (sym found.specific ∙ ap (is_specific d.hosts) (sym same) ∙ rest_is_not d.hosts h rest)

  -- The text of the rules has its guarantee.
  pub local_keeps : (dialect : LocalDialect) → IsLawfulLocal dialect → (bytes : List ℕ) → IsNetwork d → IsLocalText dialect d host bytes
      → EnforcesPolicyLocally dialect d host bytes
  local_keeps dialect laws bytes network is =
      let policy : FlowPolicy = flow_policy_of d is.policy in
      let known : IsSite policy.site = record { hosts = network.hosts; services = network.services } in
      let found : IsSpecific d host = is.so.0 in
      let rules : dialect.Rules = is.so.1.0 in
      let are_for : dialect.AreFor policy found.number rules = is.so.1.1 in
      let read : dialect.IsReading bytes rules =
      subst (λ (b : List ℕ). dialect.IsReading b rules) (sym is.so.1.2) (laws.read policy found.number rules known are_for) in
      record {
        policy = is.policy;
        invariants = policy_keeps d is.policy network is.is_policy;
        found = found;
        rules = rules;
        are_for = are_for;
        written = is.so.1.2;
        enforces_at_host = laws.enforces policy found.number rules known are_for;
        passes = all_expected dialect laws policy known (IsSubset-stateful d policy.permitted policy.stateful is.is_policy.stateful);
        other_states = laws.other_states policy found.number rules known are_for;
        read = read;
        only_reading = λ others reading. laws.one_reading bytes rules others read reading;
      }

  -- The reply of the rules for the machines of a specific host.
  pub ends_with_rules : (dialect : LocalDialect) (reply : Reply) (policy : Policy) (bytes : List ℕ) → IsPolicyOf d policy → (found : IsSpecific d host)
      → IsMachineText dialect (flow_policy_of d policy) found.number bytes → reply ≡ reply_on Done Output bytes → Answers false (machines_outcomes dialect d host) reply
  ends_with_rules dialect reply policy bytes is_policy found written is =
      subst (λ (r : Reply). Answers false (machines_outcomes dialect d host) r) (sym is)
      (refl, inr (inl (refl, (tt, found), record { policy = policy; is_policy = is_policy; so = (found, written) })))

  -- The reply regardless of a listed policy is the reply if a listed policy holds.
  pub answers_listed : (dialect : LocalDialect) (reply : Reply) → ListedHolds d → Answers false (machines_outcomes dialect d host) reply
      → Answers false (local_outcomes dialect d host) reply
  answers_listed dialect reply holds answers = (
    answers.0,
    elim answers.1 [
      | inl barred ↦ inr (inl (barred.0, (holds, barred.1.1, barred.1.2), barred.2))
      | inr rest ↦ elim rest [
        | inl written ↦ inr (inr (inl (written.0, (holds, written.1.1), written.2)))
        | inr none ↦ absurd none
      ]
    ],
  )

  -- If a listed policy holds, the line that there are none is written if and only if the host is not declared or is the rest host.
  pub barred_exactly : (dialect : LocalDialect) (reply : Reply) → Answers false (local_outcomes dialect d host) reply → ListedHolds d
      → (reply.status ≡ NotEmittable) ↔ ((line : List ℕ) × CannotEmitLocal d host line)
  barred_exactly dialect reply answers holds = (bar_where_said, said_where_barred)
    where
      bar_where_said : reply.status ≡ NotEmittable → (line : List ℕ) × CannotEmitLocal d host line
      bar_where_said said = elim answers.1 [
        | inl violated ↦ let other = violated.0 in cc (said, other)
        | inr rest ↦ elim rest [
          | inl barred ↦ (barred.1.1, barred.1.2)
          | inr last ↦ elim last [ inl written ↦ let other = written.0 in cc (said, other) | inr none ↦ absurd none ]
        ]
      ]

      said_where_barred : ((line : List ℕ) × CannotEmitLocal d host line) → reply.status ≡ NotEmittable
      said_where_barred bar = elim answers.1 [
        | inl violated ↦ absurd (violated.1 holds)
        | inr rest ↦ elim rest [
          | inl barred ↦ barred.0
          | inr last ↦ elim last [ inl written ↦ absurd (specific_or_barred bar.0 bar.1 written.1.1) | inr none ↦ absurd none ]
        ]
      ]
