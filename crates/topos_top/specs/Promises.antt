-- What an operator may rely on: the promises that all programs have (`run_core: Promises`), and those of commands, one per definition. All
-- of them follow from the single reply of a run.
use Rattle.std.specs.Prelude.{◌≡◌, ◌⊎◌, ℕ, List, codes}
use Rattle.edge_io.specs.Counts.{Rose}
use Rattle.sample_core.specs.Sample.{IsSample}
use Rattle.sample_core.specs.SamplePromises.{ReportsSample}
use Rattle.topos_top.specs.Command.{Command, ParseAs, Rules, Repair, Trace, Migrate, Audit, Local, LocalTable}
use Rattle.run_core.specs.OfPolicy.{ForwardsForNetwork}
use Rattle.topos_top.specs.Commands.{topos}
use Rattle.run_core.specs.Dialects.{rule_dialect_of}
use Rattle.topos_top.specs.Local.{EnforcesPolicyLocally, local_chains, local_table}
use Rattle.run_core.specs.FileFormats.{description}
use Rattle.run_core.specs.Promises.{IsCompleteUpTo, WasRead, Wrote}
use Rattle.run_core.specs.Promises as run
use Rattle.run_core.specs.Reply.{Reply}
use Rattle.topos_top.specs.Rules.{EnforcesPolicyText, ListedHolds}
use Rattle.run_core.specs.Shelf.{ShelfChange}
use Rattle.run_core.specs.SinkChanges.{SinkChange, Appends, AppendsSomeOf}
use Rattle.topos_top.specs.FileFormats as format
use Rattle.run_core.specs.declared.status.Status.{Status}
use Rattle.run_core.specs.declared.status.Status.TheVariants as status

-- The run delivered one reply that the observed files allow: with its status, and its text on its stream.
abbrev pub DeliversReply : (words : List (List ℕ)) → ShelfChange → (out err : SinkChange) → Status → Type 0
DeliversReply = run.DeliversReply topos

-- Why a run ended with this status, for arguments that are a command.
abbrev pub HasCause : Status → (words : List (List ℕ)) → ShelfChange → (out err : SinkChange) → Type 0
HasCause = run.HasCause topos

-- The text of a reply to the command with this status is not determined: the dialect is not exact, and the text is that of one of the
-- layouts of the policy, or of one of the reasons to reject the rules; or it is that of one of the tables for the machines of a host.
abbrev pub LeavesOpen : Command → Status → Type 0
LeavesOpen (Rules dialect file) status.Done = (rule_dialect_of dialect).IsExact → ⊥
LeavesOpen (Repair dialect file) status.Done = (rule_dialect_of dialect).IsExact → ⊥
LeavesOpen (Trace dialect rules events) status.BadText = (rule_dialect_of dialect).IsExact → ⊥
LeavesOpen (Audit dialect file rules) status.BadText = (rule_dialect_of dialect).IsExact → ⊥
LeavesOpen (LocalTable file host) status.Done = Unit {0}
LeavesOpen _ _ = ⊥

-- Another reply to the words is equal, or the text of replies with this status is not determined, and status and stream are equal.
abbrev pub AgreeFor : (words : List (List ℕ)) → (given other : Reply) → Type 0
AgreeFor words given other =
    (other ≡ given) ⊎ ((command : Command) × ParseAs words command × LeavesOpen command given.status × (other.status ≡ given.status) × (other.stream ≡ given.stream))

-- If the files are observable and no fault occurred, they and the arguments determine the reply of the run, unless memory runs out: they
-- allow this reply and no other, but for texts that are not determined.
abbrev pub IsComplete : (words : List (List ℕ)) → ShelfChange → (out err : SinkChange) → Status → Type 0
IsComplete words = IsCompleteUpTo topos (AgreeFor words) words

-- ---- what commands write

-- The headline, by command: for the commands that write rules or descriptions, and for the one that compares rules. Rules satisfy what is
-- stated for their dialect (`EnforcesPolicyText`), or for the machines of a host (`EnforcesPolicyLocally`). `rules` and `local` write them only if a
-- listed policy satisfies every invariant, so that it is permitted unchanged. `migrate` writes a document of the table of the given description in
-- version 2, which describes the same network unless it is too long (`IsMigrated`). `audit` reports `equal` only if, for every list of valid
-- packets and forget events, the rules forward what the policy of the network and its answers expect, and with any connection tracking only
-- that (`ForwardsForNetwork`).
abbrev pub MeetsHeadline : Command → ShelfChange → (out : SinkChange) → Type 0
MeetsHeadline (Rules dialect file) shelf out = WasRead shelf description file (λ d. ListedHolds d × Wrote out (EnforcesPolicyText (rule_dialect_of dialect) d))
MeetsHeadline (Repair dialect file) shelf out = WasRead shelf description file (λ d. Wrote out (EnforcesPolicyText (rule_dialect_of dialect) d))
MeetsHeadline (Migrate file) shelf out = WasRead shelf format.document file (λ migrated. Appends out migrated)
MeetsHeadline (Audit dialect file rules) shelf out = WasRead shelf description file
    (λ d. WasRead shelf (format.rules dialect) rules (λ said. ForwardsForNetwork d ((rule_dialect_of dialect).filter said) × Appends out (codes "equal\n")))
MeetsHeadline (Local file host) shelf out = WasRead shelf description file (λ d. ListedHolds d × Wrote out (EnforcesPolicyLocally local_chains d host))
MeetsHeadline (LocalTable file host) shelf out = WasRead shelf description file (λ d. ListedHolds d × Wrote out (EnforcesPolicyLocally local_table d host))
MeetsHeadline _ shelf out = Unit {0}

-- ---- the sample

-- How `sample` ends: its report is on the output; or the output failed after a prefix of the report; or memory ran out and the output is
-- unchanged.
pub data EndsAsSample (n : ℕ) (out : SinkChange) (ended : Status) : Type 0 where
  Written : ended ≡ status.Done → (report : List ℕ) → IsSample n report → ReportsSample n report → Appends out report → EndsAsSample n out ended
  CutOff : ended ≡ status.WriteFault → (report : List ℕ) → IsSample n report → AppendsSomeOf out report → Rose out.faults_before out.faults_after → EndsAsSample n out ended
  NoMemory : ended ≡ status.Memory → out.held_after ≡ out.held_before → EndsAsSample n out ended
