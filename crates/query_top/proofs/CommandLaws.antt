-- The outcomes of the questions: each has one text, which has what is promised, and no two are reached at once. The texts of `flows` and
-- `changes` may be several, and each has what is promised.
use Rattle.std.proofs.Common.{◌≡◌, inl, ℕ, List, true, false, refl, subst}
use Rattle.net_core.proofs.PolicyLaws.{policy_is_one}
use Rattle.net_core.specs.Network.{Network as Described}
use Rattle.net_core.specs.Policies.{Policy}
use Rattle.why_json.proofs.OneAnswerLaws.{network_is_one}
use Rattle.changes_json.proofs.WeakeningOnceLaws.{weakens_once}
use Rattle.json_core.specs.Json.{is_nothing}
use Rattle.why_json.specs.NetworkText.{IsNetworkText}
use Rattle.changes_json.specs.Weakening.{IsWeakening}
use Rattle.run_core.proofs.CommandPlanLaws.{HoldsAtEnds, HoldsAtFormats, RefusesOnceOr, holds_at_ends}
use Rattle.run_core.proofs.FormatLaws.{description_laws, same_refusal}
use Rattle.run_core.proofs.OutcomesLaws.{AreKept, EachOutcome, IsOneOr, IsSettled, one_each, settled_kept, settled_writes}
use Rattle.query_top.specs.Command.{Command, Changes, Compare, Flows, Network, Why}
use Rattle.query_top.specs.Changes.{IsChangesAnswer, changes_outcomes}
use Rattle.query_top.specs.Commands.{plan_of}
use Rattle.query_top.specs.Network.{IsNetworkAnswer}
use Rattle.query_top.proofs.CompareLaws.{settled_comparison}
use Rattle.run_core.specs.Dialects.{rule_dialect_of}
use Rattle.run_core.specs.Outcomes.{Outcomes}
use Rattle.run_core.proofs.DialectLaws.{laws_of}
use Rattle.query_top.specs.Promises.{LeavesOpen}
use Rattle.query_top.proofs.PlainLaws.{plain_laws, plain_once}
use Rattle.query_top.specs.Why.{why_outcomes}
use Rattle.query_top.proofs.WhyLaws.{no_flow_is_one, no_flow_named, why_text_is_one}

-- A network has one answer.
network_text_is_one : (d : Described) (a b : List ℕ) → IsNetworkAnswer d a → IsNetworkAnswer d b → a ≡ b
network_text_is_one d a b p q =
    let policies = policy_is_one d p.policy q.policy p.is_policy q.is_policy in
    network_is_one d q.policy a b (subst (λ (policy : Policy). IsNetworkText d policy a) policies p.written) q.written

-- An answer with weaker flows and one without are not of the same networks.
pub weaken_or_not : (old new : Described) (a b : List ℕ) → IsChangesAnswer old new true a → IsChangesAnswer old new false b → ⊥
weaken_or_not old new a b p q =
    let before : p.before ≡ q.before = policy_is_one old p.before q.before p.is_before q.is_before in
    let after : p.after ≡ q.after = policy_is_one new p.after q.after p.is_after q.is_after in
    let same : is_nothing p.weakening.weaker.items ≡ is_nothing q.weakening.weaker.items =
    weakens_once old q.before new q.after p.weakening q.weakening
    (subst (λ (policy : Policy). IsWeakening old q.before new policy p.weakening) after
    (subst (λ (policy : Policy). IsWeakening old policy new p.after p.weakening) before p.is_weakening)) q.is_weakening in
    let some = p.some in
    let none = q.some in
    cc (same, some, none)

-- The question has one text by its files.
abbrev pub HasOneAnswer : Command → Type 0
HasOneAnswer (Flows dialect file rules) = ⊥
HasOneAnswer (Changes old new) = ⊥
HasOneAnswer _ = Unit {0}

settled_why : (d : Described) (from to : List ℕ) → IsSettled (why_outcomes d from to)
settled_why d from to = record {
  owed = (
    record { status = refl; one = no_flow_is_one d.hosts from to; guarantees = λ now line is. is },
    (record { status = refl; one = why_text_is_one d from to; guarantees = λ now text is. is }, tt),
  );
  apart = ((λ none named. no_flow_named d.hosts from to none.1 named.0 none.2 named.1, tt), (tt, tt));
}

kept_changes : (before after : Described) → AreKept (changes_outcomes before after)
kept_changes before after = record {
  each = (record { status = refl; guarantees = λ now text is. is }, (record { status = refl; guarantees = λ now text is. is }, tt));
  apart = ((λ weaken none. weaken_or_not before after weaken.0 none.0 weaken.1 none.1, tt), (tt, tt));
}

pub settled : (command : Command) → HasOneAnswer command → HoldsAtEnds IsSettled (plan_of command)
settled (Why file from to) any = (description_laws, λ bytes d read. settled_why d from to)
settled (Network file) any = (description_laws, λ bytes d read. settled_writes _ _ (network_text_is_one d) (λ text is. is))
settled (Compare dialect file rules) any = (
  description_laws,
  λ bytes d read. (
    plain_laws dialect,
    λ other said also. settled_comparison d ((rule_dialect_of dialect).audited said) ((rule_dialect_of dialect).filter said)
        ((laws_of dialect).audited_alike other said also.0),
  ),
)
settled (Flows dialect file rules) none = absurd none
settled (Changes old new) none = absurd none

kept_if_one : (command : Command) → HasOneAnswer command → HoldsAtEnds AreKept (plan_of command)
kept_if_one command any = holds_at_ends IsSettled AreKept settled_kept (plan_of command) (settled command any)

pub kept : (command : Command) → HoldsAtEnds AreKept (plan_of command)
kept (Why file from to) = kept_if_one (Why file from to) tt
kept (Network file) = kept_if_one (Network file) tt
kept (Compare dialect file rules) = kept_if_one (Compare dialect file rules) tt
kept (Flows dialect file rules) = (
  description_laws,
  λ bytes d read. (plain_laws dialect, λ other said also. record { each = (record { status = refl; guarantees = λ now text is. is }, tt); apart = (tt, tt) }),
)
kept (Changes old new) = (description_laws, λ bytes before read. (description_laws, λ other after also. kept_changes before after))

-- The text of an outcome is unique.
pub one_text : (command : Command) → HasOneAnswer command → HoldsAtEnds (EachOutcome (IsOneOr (LeavesOpen command))) (plan_of command)
one_text command any =
    holds_at_ends IsSettled (EachOutcome (IsOneOr (LeavesOpen command))) (λ (outcomes : Outcomes) settled. one_each (LeavesOpen command) outcomes settled.owed)
    (plan_of command) (settled command any)

pub rejects_once : (command : Command) → HoldsAtFormats (RefusesOnceOr (LeavesOpen command)) (plan_of command)
rejects_once (Why file from to) = (inl same_refusal, λ bytes d read. tt)
rejects_once (Network file) = (inl same_refusal, λ bytes d read. tt)
rejects_once (Flows dialect file rules) =
    (inl same_refusal, λ bytes d read. (plain_once (LeavesOpen (Flows dialect file rules)) dialect (λ other. other), λ also said parsed. tt))
rejects_once (Compare dialect file rules) =
    (inl same_refusal, λ bytes d read. (plain_once (LeavesOpen (Compare dialect file rules)) dialect (λ other. other), λ also said parsed. tt))
rejects_once (Changes old new) = (inl same_refusal, λ bytes before read. (inl same_refusal, λ other after also. tt))
