-- The answer on the output, the differences on the output, and the statuses that not every question has.
use Rattle.std.proofs.Common.{◌≡◌, ◌⊎◌, inl, inr, ℕ, List, Option, None, Some, true, false, refl, sym, subst}
use Rattle.std.specs.Prelude.{IfSome}
use Rattle.std.specs.FinMap.{get}
use Rattle.rules_space.specs.Rules.{AnyRules, filter_of}
use Rattle.edge_io.specs.Observable.{Files}
use Rattle.host_net.specs.Host.{Host}
use Rattle.net_core.specs.Network.{Network as Described}
use Rattle.run_core.specs.OfPolicy.{ForwardsForNetwork, OfSides}
use Rattle.pkt_core.specs.Firewall.{Filter}
use Rattle.run_core.specs.Filters.{AreEquivalentFilters}
use Rattle.run_core.specs.Dialects.{rule_dialect_of}
use Rattle.run_core.specs.FileFormats.{FileFormat, description}
use Rattle.query_top.specs.PlainRules.{plain_rules}
use Rattle.query_top.proofs.PlainLaws.{plain_laws}
use Rattle.run_core.proofs.FormatLaws.{IsLawfulFormat, description_laws}
use Rattle.run_core.specs.CommandPlan.{CommandPlan, HoldsAtStop, reads, ends}
use Rattle.run_core.specs.Outcomes.{Outcomes, AnyOutcome, EndsWithGuarantee}
use Rattle.run_core.specs.Promises.{HoldsAtOutcome, HoldsAtFile, WasRead, Wrote}
use Rattle.run_core.specs.Replies.{NoMemory, Stopped, StopsRunAt}
use Rattle.run_core.specs.Reply.{Reply}
use Rattle.run_core.specs.Shelf.{Shelf, ShelfChange, since}
use Rattle.run_core.specs.SinkChanges.{SinkChange, Appends}
use Rattle.run_core.specs.declared.dialect.Dialect.{Dialect}
use Rattle.run_core.specs.declared.status.Status.{Status}
use Rattle.run_core.specs.declared.status.Status.TheVariants as status
use Rattle.run_core.proofs.RunLaws.{ReportsOnOutput, caused, stop_status}
use Rattle.query_top.specs.Commands.{topos_query}
use Rattle.query_top.proofs.CommandLaws.{kept}
use Rattle.query_top.specs.Command.{Command, ParseAs, Changes, Compare, Flows, Network, Why}
use Rattle.query_top.specs.Changes.{IsChangesAnswer, changes_outcomes}
use Rattle.query_top.specs.Commands.{plan_of}
use Rattle.query_top.specs.Compare.{ReportsDifferences, compare_outcomes, equal_json}
use Rattle.query_top.specs.Flows.{IsFlowsAnswerOf, flows_outcomes}
use Rattle.query_top.specs.Network.{IsNetworkAnswer, network_outcomes}
use Rattle.query_top.specs.Promises.{DeliversReply, HasCause, HasRules, AnswersQuestion, OutputsDifferences}
use Rattle.query_top.specs.Why.{IsWhy, why_outcomes}
use Rattle.query_top.proofs.ParseLaws.{one_ask}

-- A run of a plan from this shelf that ended with this status.
abbrev CameFrom : Status → ShelfChange → (out err : SinkChange) → CommandPlan → Shelf → Type 0
CameFrom s shelf out err plan at = HoldsAtStop shelf.only_failures plan at
    (λ format file before. HoldsAtFile s err (since before shelf) format file)
    (λ outcomes before. (shelf.after ≡ before) × HoldsAtOutcome s true out err outcomes)

-- ---- a question on one description

-- A run of the plan of a question on one description that ended with this status.
abbrev Came : Status → ShelfChange → (out err : SinkChange) → (file : List ℕ) → (Described → Outcomes) → Type 0
Came s shelf out err file outcomes = CameFrom s shelf out err (reads description file (λ d. ends (outcomes d))) shelf.before

-- The status of a description that stops a run.
stop_of : (seen : ShelfChange) (file : List ℕ) (P : Status → Type 0) (given : Reply) → P status.ReadFault → P status.Memory → P status.BadDescription
    → StopsRunAt seen description file given → P given.status
stop_of seen file P given unread memory refused (NoMemory began is) = subst (λ (r : Reply). P r.status) (sym is) memory
stop_of seen file P given unread memory refused (Stopped None last is) = subst (λ (r : Reply). P r.status) (sym is) unread
stop_of seen file P given unread memory refused (Stopped (Some bytes) last is) = subst (λ (r : Reply). P r.status) (sym is.replied) refused

-- A run that is done reached its outcomes, and its text is on the output.
wrote : (shelf : ShelfChange) (out err : SinkChange) (file : List ℕ) (outcomes : Described → Outcomes) (Is : Described → List ℕ → Type 0)
    → ((d : Described) (text : List ℕ) → AnyOutcome (EndsWithGuarantee status.Done text) (outcomes d) → Is d text)
    → Came status.Done shelf out err file outcomes → WasRead shelf description file (λ d. Wrote out (Is d))
wrote shelf out err file outcomes Is done (inl stopped) =
    absurd (stop_of (since shelf.before shelf) file (λ t. t ≡ status.Done → ⊥) stopped.0 (λ e. cc e) (λ e. cc e) (λ e. cc e) stopped.1 stopped.2)
wrote shelf out err file outcomes Is done (inr on) = record {
  bytes = on.bytes;
  held = on.held;
  said = on.said;
  read = on.read;
  so = (on.next.1.0, on.next.1.2.0, done on.said on.next.1.0 on.next.1.1);
}

why_done : (d : Described) (from to text : List ℕ) → AnyOutcome (EndsWithGuarantee status.Done text) (why_outcomes d from to) → IsWhy d from to text
why_done d from to text (inl none) = let other = none.0.0 in cc other
why_done d from to text (inr (inl answer)) = answer.1
why_done d from to text (inr (inr none)) = absurd none

network_done : (d : Described) (text : List ℕ) → AnyOutcome (EndsWithGuarantee status.Done text) (network_outcomes d) → IsNetworkAnswer d text
network_done d text (inl answer) = answer.1
network_done d text (inr none) = absurd none

-- ---- a question on a description and another file

-- A status that no file has.
abbrev IsOfOutcomes : Status → Type 0
IsOfOutcomes s = (status.ReadFault ≡ s → ⊥) × (status.Memory ≡ s → ⊥) × (status.BadDescription ≡ s → ⊥) × (status.BadText ≡ s → ⊥)

-- A run that ended in such a status was stopped by no file.
not_at_file : (s : Status) (shelf : ShelfChange) (err : SinkChange) (format : FileFormat) → IsLawfulFormat format → (file : List ℕ) (at : Shelf) → IsOfOutcomes s
    → HoldsAtFile s err (since at shelf) format file → ⊥
not_at_file s shelf err format laws file at none stopped =
    stop_status (since at shelf) format file (λ t. t ≡ s → ⊥) stopped.0 laws none.0 none.1 none.2 none.3 stopped.1 stopped.2

module _ (s : Status) (shelf : ShelfChange) (out err : SinkChange) (second : FileFormat) (laws : IsLawfulFormat second) (file other : List ℕ)
    (outcomes : Described → second.Said → Outcomes) (Is : Described → second.Said → Type 0) (none : IsOfOutcomes s)
    (at_outcomes : (d : Described) (said : second.Said) → HoldsAtOutcome s true out err (outcomes d said) → Is d said) where
  other_read : (d : Described) (at : Shelf) → at.told ≡ shelf.before.told
      → CameFrom s shelf out err (reads second other (λ said. ends (outcomes d said))) at
      → WasRead shelf second other (Is d)
  other_read d at told (inl stopped) = absurd (not_at_file s shelf err second laws other at none stopped)
  other_read d at told (inr on) = record {
    bytes = on.bytes;
    held = subst (λ (o : Option Files). IfSome o (λ files. get files other ≡ Some on.bytes)) told on.held;
    said = on.said;
    read = on.read;
    so = at_outcomes d on.said on.next.1;
  }

  -- Such a run read both files.
  both_read : CameFrom s shelf out err (reads description file (λ d. reads second other (λ said. ends (outcomes d said)))) shelf.before
      → WasRead shelf description file (λ d. WasRead shelf second other (Is d))
  both_read (inl stopped) = absurd (not_at_file s shelf err description description_laws file shelf.before none stopped)
  both_read (inr on) = record {
    bytes = on.bytes;
    held = on.held;
    said = on.said;
    read = on.read;
    so = other_read on.said on.after on.took.began.told on.next;
  }

compare_done : (out err : SinkChange) (d : Described) (filter : Filter) (rules : AnyRules) → HoldsAtOutcome status.Done true out err (compare_outcomes d filter rules)
    → ForwardsForNetwork d filter × Appends out equal_json
compare_done out err d filter rules at = elim at.1 [
  | inl differ ↦ let other = differ.0.0 in cc other
  | inr rest ↦ elim rest [
    | inl agree ↦ (agree.1.0, subst (λ (text : List ℕ). Appends out text) agree.1.1 at.2.0)
    | inr none ↦ absurd none
  ]
]

compare_differs : (out err : SinkChange) (d : Described) (filter : Filter) (rules : AnyRules) → HoldsAtOutcome status.Violated true out err (compare_outcomes d filter rules)
    → Wrote out (λ text. OfSides d rules (λ sides. ReportsDifferences sides text) × AreEquivalentFilters (filter_of rules) filter)
compare_differs out err d filter rules at = elim at.1 [
  | inl differ ↦ (at.0, at.2.0, differ.1)
  | inr rest ↦ elim rest [
    | inl agree ↦ let other = agree.0.0 in cc other
    | inr none ↦ absurd none
  ]
]

flows_done : (out err : SinkChange) (dialect : Dialect) (hosts : List Host) (said : (rule_dialect_of dialect).Rules)
    → HoldsAtOutcome status.Done true out err (flows_outcomes dialect hosts said) → Wrote out (IsFlowsAnswerOf dialect hosts said)
flows_done out err dialect hosts said at = elim at.1 [
  | inl answer ↦ (at.0, at.2.0, answer.1)
  | inr none ↦ absurd none
]

changes_done : (out err : SinkChange) (before after : Described) → HoldsAtOutcome status.Done true out err (changes_outcomes before after)
    → Wrote out (IsChangesAnswer before after false)
changes_done out err before after at = elim at.1 [
  | inl weaken ↦ let other = weaken.0.0 in cc other
  | inr rest ↦ elim rest [
    | inl answer ↦ (at.0, at.2.0, answer.1)
    | inr none ↦ absurd none
  ]
]

changes_weaken : (out err : SinkChange) (before after : Described) → HoldsAtOutcome status.Violated true out err (changes_outcomes before after)
    → Wrote out (IsChangesAnswer before after true)
changes_weaken out err before after at = elim at.1 [
  | inl weaken ↦ (at.0, at.2.0, weaken.1)
  | inr rest ↦ elim rest [
    | inl answer ↦ let other = answer.0.0 in cc other
    | inr none ↦ absurd none
  ]
]

-- ---- the answer

answer_kept : (shelf : ShelfChange) (out err : SinkChange) (command : Command) → CameFrom status.Done shelf out err (plan_of command) shelf.before → AnswersQuestion command shelf out
answer_kept shelf out err (Why file from to) came =
    wrote shelf out err file (λ d. why_outcomes d from to) (λ d. IsWhy d from to) (λ d. why_done d from to) came
answer_kept shelf out err (Network file) came = wrote shelf out err file network_outcomes IsNetworkAnswer network_done came
answer_kept shelf out err (Flows dialect file rules) came =
    both_read status.Done shelf out err (plain_rules dialect) (plain_laws dialect) file rules (λ d said. flows_outcomes dialect d.hosts said)
    (λ d said. Wrote out (IsFlowsAnswerOf dialect d.hosts said))
    ((λ e. cc e), (λ e. cc e), (λ e. cc e), (λ e. cc e)) (λ d said. flows_done out err dialect d.hosts said) came
answer_kept shelf out err (Compare dialect file rules) came =
    both_read status.Done shelf out err (plain_rules dialect) (plain_laws dialect) file rules (λ d said. compare_outcomes d ((rule_dialect_of dialect).filter said) ((rule_dialect_of dialect).audited said))
    (λ d said. ForwardsForNetwork d ((rule_dialect_of dialect).filter said) × Appends out equal_json)
    ((λ e. cc e), (λ e. cc e), (λ e. cc e), (λ e. cc e)) (λ d said. compare_done out err d ((rule_dialect_of dialect).filter said) ((rule_dialect_of dialect).audited said)) came
answer_kept shelf out err (Changes old new) came =
    both_read status.Done shelf out err description description_laws old new changes_outcomes (λ before after. Wrote out (IsChangesAnswer before after false))
    ((λ e. cc e), (λ e. cc e), (λ e. cc e), (λ e. cc e)) (λ before after. changes_done out err before after) came

-- The answer on the output is the answer to the question.
pub answered_law : (words : List (List ℕ)) (shelf : ShelfChange) (out err : SinkChange) → HasCause status.Done words shelf out err
    → (command : Command) → ParseAs words command → AnswersQuestion command shelf out
answered_law words shelf out err cause command asked =
    subst (λ (a : Command). AnswersQuestion a shelf out) (one_ask words cause.command command cause.asked asked) (answer_kept shelf out err cause.command cause.along)

-- ---- the statuses that not every question has

-- The outcomes are an answer, or the line that there is none.
abbrev EndsInTwo : Outcomes → Type 0
EndsInTwo outcomes = (ended : Status) (text : List ℕ) → AnyOutcome (EndsWithGuarantee ended text) outcomes → (ended ≡ status.Done) ⊎ (ended ≡ status.NotEmittable)

why_ends : (d : Described) (from to : List ℕ) → EndsInTwo (why_outcomes d from to)
why_ends d from to ended text (inl none) = inr none.0.0
why_ends d from to ended text (inr (inl answer)) = inl answer.0.0
why_ends d from to ended text (inr (inr none)) = absurd none

network_ends : (d : Described) → EndsInTwo (network_outcomes d)
network_ends d ended text (inl answer) = inl answer.0.0
network_ends d ended text (inr none) = absurd none

-- So a question on one description ends with no status that neither its file nor its outcomes have.
never_violated : (shelf : ShelfChange) (out err : SinkChange) (file : List ℕ) (outcomes : Described → Outcomes) → ((d : Described) → EndsInTwo (outcomes d)) → Came status.Violated shelf out err file outcomes → ⊥
never_violated shelf out err file outcomes two (inl stopped) =
    stop_of (since shelf.before shelf) file (λ t. t ≡ status.Violated → ⊥) stopped.0 (λ e. cc e) (λ e. cc e) (λ e. cc e) stopped.1 stopped.2
never_violated shelf out err file outcomes two (inr on) =
    elim (two on.said status.Violated on.next.1.0 on.next.1.1) [ inl is ↦ cc is | inr is ↦ cc is ]

never_bad_text : (shelf : ShelfChange) (out err : SinkChange) (file : List ℕ) (outcomes : Described → Outcomes) → ((d : Described) → EndsInTwo (outcomes d)) → Came status.BadText shelf out err file outcomes → ⊥
never_bad_text shelf out err file outcomes two (inl stopped) =
    stop_of (since shelf.before shelf) file (λ t. t ≡ status.BadText → ⊥) stopped.0 (λ e. cc e) (λ e. cc e) (λ e. cc e) stopped.1 stopped.2
never_bad_text shelf out err file outcomes two (inr on) =
    elim (two on.said status.BadText on.next.1.0 on.next.1.1) [ inl is ↦ cc is | inr is ↦ cc is ]

-- A run of the plan of a question on two descriptions that ended with this status.
abbrev CameBoth : Status → ShelfChange → (out err : SinkChange) → (old new : List ℕ) → (Described → Described → Outcomes) → Type 0
CameBoth s shelf out err old new outcomes = CameFrom s shelf out err (reads description old (λ before. reads description new (λ after. ends (outcomes before after)))) shelf.before

-- The outcomes of `changes` are an answer, which may be a violation.
changes_ends : (before after : Described) (ended : Status) (text : List ℕ) → AnyOutcome (EndsWithGuarantee ended text) (changes_outcomes before after)
    → (ended ≡ status.Done) ⊎ (ended ≡ status.Violated)
changes_ends before after ended text (inl weaken) = inr weaken.0.0
changes_ends before after ended text (inr (inl answer)) = inl answer.0.0
changes_ends before after ended text (inr (inr none)) = absurd none

-- A description is never a bad text.
never_bad_text_between : (shelf : ShelfChange) (out err : SinkChange) (old new : List ℕ) → CameBoth status.BadText shelf out err old new changes_outcomes → ⊥
never_bad_text_between shelf out err old new (inl stopped) =
    stop_of (since shelf.before shelf) old (λ t. t ≡ status.BadText → ⊥) stopped.0 (λ e. cc e) (λ e. cc e) (λ e. cc e) stopped.1 stopped.2
never_bad_text_between shelf out err old new (inr on) = elim on.next [
  | inl stopped ↦ stop_of (since on.after shelf) new (λ t. t ≡ status.BadText → ⊥) stopped.0 (λ e. cc e) (λ e. cc e) (λ e. cc e) stopped.1 stopped.2
  | inr went ↦ elim (changes_ends on.said went.said status.BadText went.next.1.0 went.next.1.1) [ inl is ↦ cc is | inr is ↦ cc is ]
]

flows_ends : (dialect : Dialect) (hosts : List Host) (said : (rule_dialect_of dialect).Rules) → EndsInTwo (flows_outcomes dialect hosts said)
flows_ends dialect hosts said ended text (inl answer) = inl answer.0.0
flows_ends dialect hosts said ended text (inr none) = absurd none

never_violated_by_rules : (shelf : ShelfChange) (out err : SinkChange) (dialect : Dialect) (file rules : List ℕ) → CameFrom status.Violated shelf out err (plan_of (Flows dialect file rules)) shelf.before → ⊥
never_violated_by_rules shelf out err dialect file rules (inl stopped) =
    stop_of (since shelf.before shelf) file (λ t. t ≡ status.Violated → ⊥) stopped.0 (λ e. cc e) (λ e. cc e) (λ e. cc e) stopped.1 stopped.2
never_violated_by_rules shelf out err dialect file rules (inr on) = elim on.next [
  | inl stopped ↦ not_at_file status.Violated shelf err (plain_rules dialect) (plain_laws dialect) rules on.after ((λ e. cc e), (λ e. cc e), (λ e. cc e), (λ e. cc e)) stopped
  | inr went ↦ elim (flows_ends dialect on.said.hosts went.said status.Violated went.next.1.0 went.next.1.1) [ inl is ↦ cc is | inr is ↦ cc is ]
]

differences_kept : (shelf : ShelfChange) (out err : SinkChange) (command : Command) → CameFrom status.Violated shelf out err (plan_of command) shelf.before
    → OutputsDifferences command shelf out
differences_kept shelf out err (Why file from to) came = never_violated shelf out err file (λ d. why_outcomes d from to) (λ d. why_ends d from to) came
differences_kept shelf out err (Network file) came = never_violated shelf out err file network_outcomes network_ends came
differences_kept shelf out err (Flows dialect file rules) came = absurd (never_violated_by_rules shelf out err dialect file rules came)
differences_kept shelf out err (Compare dialect file rules) came =
    both_read status.Violated shelf out err (plain_rules dialect) (plain_laws dialect) file rules (λ d said. compare_outcomes d ((rule_dialect_of dialect).filter said) ((rule_dialect_of dialect).audited said))
    (λ d said. Wrote out (λ text. OfSides d ((rule_dialect_of dialect).audited said) (λ sides. ReportsDifferences sides text)
    × AreEquivalentFilters (filter_of ((rule_dialect_of dialect).audited said)) ((rule_dialect_of dialect).filter said)))
    ((λ e. cc e), (λ e. cc e), (λ e. cc e), (λ e. cc e)) (λ d said. compare_differs out err d ((rule_dialect_of dialect).filter said) ((rule_dialect_of dialect).audited said)) came
differences_kept shelf out err (Changes old new) came =
    both_read status.Violated shelf out err description description_laws old new changes_outcomes (λ before after. Wrote out (IsChangesAnswer before after true))
    ((λ e. cc e), (λ e. cc e), (λ e. cc e), (λ e. cc e)) (λ before after. changes_weaken out err before after) came

-- Only a comparison finds differences, and only a change weakens flows. They are on the output.
pub differences_law : (words : List (List ℕ)) (shelf : ShelfChange) (out err : SinkChange) → HasCause status.Violated words shelf out err
    → (command : Command) → ParseAs words command → OutputsDifferences command shelf out
differences_law words shelf out err cause command asked =
    subst (λ (a : Command). OutputsDifferences a shelf out) (one_ask words cause.command command cause.asked asked) (differences_kept shelf out err cause.command cause.along)

rules_had : (shelf : ShelfChange) (out err : SinkChange) (command : Command) → CameFrom status.BadText shelf out err (plan_of command) shelf.before → HasRules command
rules_had shelf out err (Why file from to) came = never_bad_text shelf out err file (λ d. why_outcomes d from to) (λ d. why_ends d from to) came
rules_had shelf out err (Network file) came = never_bad_text shelf out err file network_outcomes network_ends came
rules_had shelf out err (Flows dialect file rules) came = tt
rules_had shelf out err (Compare dialect file rules) came = tt
rules_had shelf out err (Changes old new) came = never_bad_text_between shelf out err old new came

-- Only rules are a bad text.
pub rules_law : (words : List (List ℕ)) (shelf : ShelfChange) (out err : SinkChange) → HasCause status.BadText words shelf out err
    → (command : Command) → ParseAs words command → HasRules command
rules_law words shelf out err cause command asked =
    subst (λ (a : Command). HasRules a) (one_ask words cause.command command cause.asked asked) (rules_had shelf out err cause.command cause.along)

-- A run that ended with violations has a question, and each question reports them on the output.
pub is_reported : (words : List (List ℕ)) (shelf : ShelfChange) (out err : SinkChange) (s : Status) → DeliversReply words shelf out err s
    → (s ≡ status.Done) ⊎ (s ≡ status.Violated) → (s ≡ status.Done) ⊎ ((s ≡ status.Violated) × ReportsOnOutput topos_query words)
is_reported words shelf out err s gave (inl done) = inl done
is_reported words shelf out err s gave (inr violated) =
    let cause = caused topos_query kept words shelf out err s gave status.Violated (λ e. cc e) violated in
    inr (violated, (cause.command, cause.asked, refl))
