-- What an operator may rely on: the promises that all programs have (`run_core: Promises`), and those of answers. All of them follow from
-- the one reply of a run.
use Rattle.std.specs.Prelude.{◌≡◌, ℕ, ◌⊎◌, List, true, false}
use Rattle.rules_space.specs.Rules.{filter_of}
use Rattle.run_core.specs.OfPolicy.{ForwardsForNetwork, OfSides}
use Rattle.run_core.specs.Filters.{AreEquivalentFilters}
use Rattle.run_core.specs.Dialects.{rule_dialect_of}
use Rattle.run_core.specs.Promises.{IsCompleteUpTo, WasRead, Wrote}
use Rattle.run_core.specs.Promises as run
use Rattle.run_core.specs.Reply.{Reply}
use Rattle.run_core.specs.Shelf.{ShelfChange}
use Rattle.run_core.specs.SinkChanges.{SinkChange, Appends}
use Rattle.run_core.specs.FileFormats.{description}
use Rattle.query_top.specs.PlainRules.{plain_rules}
use Rattle.run_core.specs.declared.dialect.Dialect.{Dialect}
use Rattle.run_core.specs.declared.dialect.Dialect.TheVariants.{Nft}
use Rattle.run_core.specs.declared.status.Status.{Status}
use Rattle.changes_json.specs.WithoutExamples.{SameChangesButExamples}
use Rattle.flows_json.specs.WithoutExamples.{SameFlowsButExamples, SameTableFlowsButExamples}
use Rattle.run_core.specs.declared.status.Status.TheVariants.{BadText}
use Rattle.query_top.specs.Command.{Command, ParseAs, ParseAsNothing, Changes, Compare, Flows, Network, Why}
use Rattle.query_top.specs.Changes.{IsChangesAnswer}
use Rattle.query_top.specs.Commands.{topos_query}
use Rattle.query_top.specs.Compare.{ReportsDifferences, equal_json}
use Rattle.query_top.specs.Flows.{IsFlowsAnswerOf}
use Rattle.query_top.specs.Network.{IsNetworkAnswer}
use Rattle.query_top.specs.Why.{IsWhy}

-- The run gave one reply that the files, as it saw them, allow: in its status, and with its text on its stream.
abbrev pub DeliversReply : (words : List (List ℕ)) → ShelfChange → (out err : SinkChange) → Status → Type 0
DeliversReply = run.DeliversReply topos_query

-- The cause of a run that ended with this status, for arguments that form a question.
abbrev pub HasCause : Status → (words : List (List ℕ)) → ShelfChange → (out err : SinkChange) → Type 0
HasCause = run.HasCause topos_query

-- The answer to a question is on the output: the file, as the run saw it, describes a network, and the answer is for that network and the
-- other file. A comparison says that rules and policy are equal only if, over every list of events with valid packets, the rules forward what
-- the policy and its answers expect, and with any connection tracking only that.
abbrev pub AnswersQuestion : Command → ShelfChange → (out : SinkChange) → Type 0
AnswersQuestion (Why file from to) shelf out = WasRead shelf description file (λ d. Wrote out (IsWhy d from to))
AnswersQuestion (Network file) shelf out = WasRead shelf description file (λ d. Wrote out (IsNetworkAnswer d))
AnswersQuestion (Flows dialect file rules) shelf out = WasRead shelf description file
    (λ d. WasRead shelf (plain_rules dialect) rules (λ said. Wrote out (IsFlowsAnswerOf dialect d.hosts said)))
AnswersQuestion (Compare dialect file rules) shelf out = WasRead shelf description file
    (λ d. WasRead shelf (plain_rules dialect) rules (λ said. ForwardsForNetwork d ((rule_dialect_of dialect).filter said) × Appends out equal_json))
AnswersQuestion (Changes old new) shelf out = WasRead shelf description old (λ before. WasRead shelf description new (λ after. Wrote out (IsChangesAnswer before after false)))

-- The question is a comparison with differences, or one on changes that weaken a flow, and the answer is on the output: the files, as the run
-- saw them, describe a network and have rules, or describe two networks, and the answer has all differences, or all changes and weaker flows.
abbrev pub OutputsDifferences : Command → ShelfChange → (out : SinkChange) → Type 0
OutputsDifferences (Compare dialect file rules) shelf out = WasRead shelf description file
    (λ d. WasRead shelf (plain_rules dialect) rules (λ said. Wrote out (λ text. OfSides d ((rule_dialect_of dialect).audited said) (λ sides. ReportsDifferences sides text)
    × AreEquivalentFilters (filter_of ((rule_dialect_of dialect).audited said)) ((rule_dialect_of dialect).filter said))))
OutputsDifferences (Changes old new) shelf out = WasRead shelf description old (λ before. WasRead shelf description new (λ after. Wrote out (IsChangesAnswer before after true)))
OutputsDifferences _ shelf out = ⊥

-- The question has rules.
abbrev pub HasRules : Command → Type 0
HasRules (Flows dialect file rules) = Unit {0}
HasRules (Compare dialect file rules) = Unit {0}
HasRules _ = ⊥

-- The texts of two answers of `flows` in a dialect are equal but for the examples.
abbrev pub SameFlowsOf : Dialect → (text other : List ℕ) → Type 0
SameFlowsOf Nft text other = SameTableFlowsButExamples text other
SameFlowsOf _ text other = SameFlowsButExamples text other

-- The texts of two answers to a question are equal. The packets that answers of `flows` and `changes` show are examples: their texts are
-- equal but for these.
abbrev pub SameTextsButExamples : Command → (text other : List ℕ) → Type 0
SameTextsButExamples (Flows dialect file rules) text other = (text ≡ other) ⊎ SameFlowsOf dialect text other
SameTextsButExamples (Changes old new) text other = (text ≡ other) ⊎ SameChangesButExamples text other
SameTextsButExamples _ text other = text ≡ other

-- The text of a reply to the question with this status is not determined: the dialect is not exact, and the text is that of one of the
-- reasons to reject the rules.
abbrev pub LeavesOpen : Command → Status → Type 0
LeavesOpen (Flows dialect file rules) BadText = (rule_dialect_of dialect).IsExact → ⊥
LeavesOpen (Compare dialect file rules) BadText = (rule_dialect_of dialect).IsExact → ⊥
LeavesOpen _ _ = ⊥

-- Two replies to a question have the same status and the same stream, and texts that are equal but for examples, or not determined.
pub record AgreeOn (command : Command) (given other : Reply) : Type 0 where
  pub status : given.status ≡ other.status
  pub stream : given.stream ≡ other.stream
  pub texts : SameTextsButExamples command given.text other.text ⊎ LeavesOpen command given.status

-- Two replies to words are equal if the words are no question. Otherwise they agree on the question.
abbrev pub AgreeFor : List (List ℕ) → (given other : Reply) → Type 0
AgreeFor words given other = (ParseAsNothing words × (given ≡ other)) ⊎ ((command : Command) × ParseAs words command × AgreeOn command given other)

-- If the shelf's files are observable and it counted no fault, the run had no memory, or it gave a reply to the arguments by these files, and
-- every reply to the arguments by these files agrees with it.
abbrev pub IsComplete : (words : List (List ℕ)) → ShelfChange → (out err : SinkChange) → Status → Type 0
IsComplete words = IsCompleteUpTo topos_query (AgreeFor words) words
