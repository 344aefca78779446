-- Two replies to a question by the same files are alike.
use Rattle.std.proofs.Common.{◌≡◌, inl, inr, ℕ, List, true, false, refl, sym, ap, subst, ◌∙◌}
use Rattle.std.specs.Prelude.{Bool}
use Rattle.change_core.specs.Changes.{AreChanges}
use Rattle.edge_io.specs.Observable.{Files}
use Rattle.host_net.specs.Host.{Host}
use Rattle.net_core.proofs.PolicyLaws.{policy_is_one}
use Rattle.net_core.specs.Network.{Network as Described}
use Rattle.net_core.specs.Policies.{Policy}
use Rattle.changes_json.proofs.ChangeExampleLaws.{changes_are_alike}
use Rattle.flows_json.proofs.DeadExampleLaws.{dead_are_one}
use Rattle.flows_json.proofs.FlowExampleLaws.{flows_are_alike}
use Rattle.flows_json.proofs.TableExampleLaws.{dead_are_one as table_dead_are_one, table_flows_are_alike}
use Rattle.changes_json.proofs.WeakeningExampleLaws.{gaps_are_one, weaker_are_alike}
use Rattle.changes_json.specs.WithoutExamples.{SameChangesButExamples}
use Rattle.flows_json.specs.WithoutExamples.{SameFlowsButExamples, SameTableFlowsButExamples}
use Rattle.flows_json.specs.FlowsJson.{flows_json}
use Rattle.flows_json.specs.TableFlowsJson.{ChainNames, name_in, table_flows_json}
use Rattle.changes_json.specs.Weakening.{IsWeakening}
use Rattle.report_core.specs.FlowPolicies.{flow_policy_of}
use Rattle.nft_chains.proofs.VerdictLaws.{same_verdicts}
use Rattle.nft_flows.proofs.AlikeLaws.{AreSimilar, IsKnown}
use Rattle.nft_flows.specs.declared.place.TablePlace.{TablePlace}
use Rattle.nft_read.specs.Reading.{IsTable}
use Rattle.nft_rules.specs.declared.table.Table.{Table}
use Rattle.nft_text.specs.Text.{table_text}
use Rattle.rules_space.specs.Rules.{AnyRules, Chains, Entries}
use Rattle.run_core.proofs.TableVerdictLaws.{has_verdicts}
use Rattle.run_core.specs.Tables.{TableRules}
use Rattle.run_core.specs.declared.dialect.Dialect.{Dialect}
use Rattle.run_core.specs.declared.dialect.Dialect.TheVariants.{Iptables, Nft, OpenFlow}
use Rattle.run_core.specs.Dialects.{rule_dialect_of}
use Rattle.run_core.specs.Outcomes.{Answers, stream_of}
use Rattle.run_core.specs.Replies.{Replies, RepliesTo, observable_shelf}
use Rattle.run_core.specs.Reply.{Reply}
use Rattle.run_core.proofs.CommandPlanLaws.{AreRelated, HoldsAtEnds, RefusesOnceOr, StopsRelated, holds_at_formats, stops_related, told_alike, told_related}
use Rattle.run_core.proofs.FormatLaws.{description_laws}
use Rattle.run_core.proofs.OutcomesLaws.{AgreeOr}
use Rattle.query_top.proofs.PlainLaws.{plain_laws}
use Rattle.query_top.specs.Changes.{IsChangesAnswer, changes_outcomes}
use Rattle.query_top.specs.Command.{Changes, Command, Compare, Flows, Network, Why}
use Rattle.query_top.specs.Commands.{plan_of, topos_query}
use Rattle.query_top.specs.Flows.{IsFlowsAnswer, IsFlowsAnswerOf, flows_outcomes}
use Rattle.query_top.specs.TableFlows.{IsTableFlowsAnswer}
use Rattle.query_top.proofs.TableShapeLaws.{one_names, one_spans}
use Rattle.query_top.specs.Promises.{AgreeOn, SameFlowsOf, AgreeFor, LeavesOpen}
use Rattle.query_top.proofs.CommandLaws.{HasOneAnswer, one_text, rejects_once, weaken_or_not}
use Rattle.query_top.proofs.ParseLaws.{one_ask}

-- ---- answers to `flows`

flows_texts : (hosts : List Host) (rules : AnyRules) (text other : List ℕ) → IsFlowsAnswer hosts rules text → IsFlowsAnswer hosts rules other
    → SameFlowsButExamples text other
flows_texts hosts rules text other p q = record {
  rules = rules;
  hosts = hosts;
  dead = p.dead;
  flows = p.flows;
  other_flows = q.flows;
  same = flows_are_alike rules hosts p.flows q.flows p.are q.are;
  written = p.written;
  other_written = q.written ∙ ap (flows_json rules hosts q.flows) (dead_are_one rules q.dead p.dead q.are_dead p.are_dead);
}

-- A table whose text was read.
known_table : (table : Table) → IsTable table → IsKnown table
known_table table is = record {
  loadable = is.loadable;
  same = same_verdicts table is.loadable (λ state p any. has_verdicts table is.loadable state p);
}

table_texts : (hosts : List Host) (rules : TableRules) (text other : List ℕ) → IsTableFlowsAnswer hosts rules text → IsTableFlowsAnswer hosts rules other
    → SameTableFlowsButExamples text other
table_texts hosts rules text other p q =
    let a = p.table in
    let b = q.table in
    let is = p.has_rules.is_table in
    let own = q.has_rules.is_table in
    let same : table_text a ≡ table_text b = sym p.has_rules.text ∙ q.has_rules.text in
    let similar : AreSimilar a b = record { chains = sym p.has_rules.chains ∙ q.has_rules.chains; spans = one_spans a b is own same } in
    let one = known_table a is in
    let two = known_table b own in
    record {
      names = name_in a;
      hosts = hosts;
      dead = p.dead;
      flows = p.flows;
      other_flows = q.flows;
      same = table_flows_are_alike a b one two similar hosts p.flows q.flows p.are q.are;
      written = p.written;
      other_written =
          q.written
          ∙ ap (λ (names : ChainNames). table_flows_json names hosts q.flows q.dead) (sym (one_names a b is own same))
          ∙ ap (λ (dead : List TablePlace). table_flows_json (name_in a) hosts q.flows dead)
          (sym (table_dead_are_one a b one two similar p.dead q.dead p.are_dead q.are_dead));
    }

texts_of : (dialect : Dialect) (hosts : List Host) (said : (rule_dialect_of dialect).Rules) (text other : List ℕ) → IsFlowsAnswerOf dialect hosts said text
    → IsFlowsAnswerOf dialect hosts said other → SameFlowsOf dialect text other
texts_of Iptables hosts said text other p q = flows_texts hosts (Chains said) text other p q
texts_of OpenFlow hosts said text other p q = flows_texts hosts (Entries said) text other p q
texts_of Nft hosts said text other p q = table_texts hosts said text other p q

flows_related : (dialect : Dialect) (file rules : List ℕ) (hosts : List Host) (said : (rule_dialect_of dialect).Rules) (r s : Reply)
    → Answers true (flows_outcomes dialect hosts said) r → Answers true (flows_outcomes dialect hosts said) s → AgreeOn (Flows dialect file rules) r s
flows_related dialect file rules hosts said r s (on, inl p) (also, inl q) =
    let status : r.status ≡ s.status = p.0 ∙ sym q.0 in
    record {
      status = status;
      stream = on ∙ ap (stream_of true) status ∙ sym also;
      texts = inl (inr (texts_of dialect hosts said r.text s.text p.2 q.2));
    }
flows_related dialect file rules hosts said r s (on, inl p) (also, inr q) = absurd q
flows_related dialect file rules hosts said r s (on, inr p) (also, q) = absurd p

-- ---- answers to `changes`

changes_texts : (old new : Described) (is_weaker : Bool) (text other : List ℕ) → IsChangesAnswer old new is_weaker text
    → IsChangesAnswer old new is_weaker other → SameChangesButExamples text other
changes_texts old new is_weaker text other p q =
    let before : p.before ≡ q.before = policy_is_one old p.before q.before p.is_before q.is_before in
    let after : p.after ≡ q.after = policy_is_one new p.after q.after p.is_after q.is_after in
    let are : AreChanges (flow_policy_of old q.before) (flow_policy_of new q.after) p.changes =
    subst (λ (policy : Policy). AreChanges (flow_policy_of old q.before) (flow_policy_of new policy) p.changes) after
    (subst (λ (policy : Policy). AreChanges (flow_policy_of old policy) (flow_policy_of new p.after) p.changes) before p.all.are) in
    let weakens : IsWeakening old q.before new q.after p.weakening =
    subst (λ (policy : Policy). IsWeakening old q.before new policy p.weakening) after
    (subst (λ (policy : Policy). IsWeakening old policy new p.after p.weakening) before p.is_weakening) in
    record {
      new = new.hosts;
      old = old.hosts;
      changes = p.changes;
      other_changes = q.changes;
      same = changes_are_alike (flow_policy_of old q.before) (flow_policy_of new q.after) p.changes q.changes are q.all.are;
      weakening = p.weakening;
      other_weakening = q.weakening;
      weaker = weaker_are_alike old q.before new q.after p.weakening q.weakening weakens q.is_weakening;
      gaps = gaps_are_one old q.before new q.after p.weakening q.weakening weakens q.is_weakening;
      written = p.written;
      other_written = q.written;
    }

changes_related : (file other : List ℕ) (old new : Described) (r s : Reply) → Answers true (changes_outcomes old new) r
    → Answers true (changes_outcomes old new) s → AgreeOn (Changes file other) r s
changes_related file other old new r s (on, inl p) (also, inl q) =
    let status : r.status ≡ s.status = p.0 ∙ sym q.0 in
    record { status = status; stream = on ∙ ap (stream_of true) status ∙ sym also; texts = inl (inr (changes_texts old new true r.text s.text p.2 q.2)) }
changes_related file other old new r s (on, inr (inl p)) (also, inr (inl q)) =
    let status : r.status ≡ s.status = p.0 ∙ sym q.0 in
    record { status = status; stream = on ∙ ap (stream_of true) status ∙ sym also; texts = inl (inr (changes_texts old new false r.text s.text p.2 q.2)) }
changes_related file other old new r s (on, inl p) (also, inr (inl q)) = absurd (weaken_or_not old new r.text s.text p.2 q.2)
changes_related file other old new r s (on, inr (inl p)) (also, inl q) = absurd (weaken_or_not old new s.text r.text q.2 p.2)
changes_related file other old new r s (on, inl p) (also, inr (inr q)) = absurd q
changes_related file other old new r s (on, inr (inl p)) (also, inr (inr q)) = absurd q
changes_related file other old new r s (on, inr (inr p)) (also, q) = absurd p

-- ---- replies to a question

itself : (command : Command) (r : Reply) → AgreeOn command r r
itself (Why file from to) r = record { status = refl; stream = refl; texts = inl refl }
itself (Network file) r = record { status = refl; stream = refl; texts = inl refl }
itself (Flows dialect file rules) r = record { status = refl; stream = refl; texts = inl (inl refl) }
itself (Compare dialect file rules) r = record { status = refl; stream = refl; texts = inl refl }
itself (Changes old new) r = record { status = refl; stream = refl; texts = inl (inl refl) }

same_alike : (command : Command) (r s : Reply) → r ≡ s → AgreeOn command r s
same_alike command r s same = subst (AgreeOn command r) same (itself command r)

of_alike : (command : Command) (r s : Reply) → AgreeOr (LeavesOpen command) r s → AgreeOn command r s
of_alike command r s (inl same) = same_alike command r s (sym same)
of_alike command r s (inr loose) = record { status = sym loose.1; stream = sym loose.2; texts = inr loose.0 }

-- A question with one answer.
one_alike : (command : Command) → HasOneAnswer command → (told : Files) (r s : Reply) → Replies true (plan_of command) told r → Replies true (plan_of command) told s
    → AgreeOn command r s
one_alike command any told r s p q =
    of_alike command r s (told_alike true (LeavesOpen command) (plan_of command) told r s (rejects_once command) (one_text command any) p q)

-- A question of whose answers any two are alike.
each_alike : (command : Command) → HoldsAtEnds (AreRelated true (AgreeOn command)) (plan_of command) → (told : Files) (r s : Reply)
    → Replies true (plan_of command) told r → Replies true (plan_of command) told s → AgreeOn command r s
each_alike command related told r s p q =
    told_related true (AgreeOn command) (plan_of command) (observable_shelf told) (observable_shelf told) told r s
    (holds_at_formats (RefusesOnceOr (LeavesOpen command)) (StopsRelated (AgreeOn command))
    (λ format once file saw a b one other. of_alike command a b (stops_related (LeavesOpen command) format once file saw a b one other))
    (plan_of command) (rejects_once command))
    related refl refl p q

replies_alike : (command : Command) (told : Files) (r s : Reply) → Replies true (plan_of command) told r → Replies true (plan_of command) told s
    → AgreeOn command r s
replies_alike (Why file from to) told r s p q = one_alike (Why file from to) tt told r s p q
replies_alike (Network file) told r s p q = one_alike (Network file) tt told r s p q
replies_alike (Compare dialect file rules) told r s p q = one_alike (Compare dialect file rules) tt told r s p q
replies_alike (Flows dialect file rules) told r s p q =
    each_alike (Flows dialect file rules) (
      description_laws,
      λ bytes d read. (
        plain_laws dialect,
        λ also said parsed. λ a b one other. flows_related dialect file rules d.hosts said a b one.0 other.0,
      ),
    ) told r s p q
replies_alike (Changes old new) told r s p q =
    each_alike (Changes old new)
    (description_laws, λ bytes before read. (description_laws, λ other after also. λ a b one same. changes_related old new before after a b one.0 same.0)) told r s p q

-- Two replies to the words by the same files are alike.
pub alike_law : (words : List (List ℕ)) (told : Files) (r s : Reply) → RepliesTo topos_query words told r → RepliesTo topos_query words told s → AgreeFor words r s
alike_law words told r s (inl p) (inl q) = inl (p.0, p.1 ∙ sym q.1)
alike_law words told r s (inl p) (inr q) = absurd (p.0 q.0 q.1)
alike_law words told r s (inr p) (inl q) = absurd (q.0 p.0 p.1)
alike_law words told r s (inr p) (inr q) =
    let same = one_ask words q.0 p.0 q.1 p.1 in
    inr (p.0, p.1, replies_alike p.0 told r s p.2 (subst (λ (command : Command). Replies true (plan_of command) told s) same q.2))
