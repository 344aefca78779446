-- What an operator may rely on of every program, one promise per definition. All of them follow from the single reply of a run.
use Rattle.std.specs.Prelude.{◌≡◌, ℕ, ◌⊎◌, Bool, List, Some, IfSome}
use Rattle.edge_io.specs.Counts.{Rose}
use Rattle.run_core.specs.CommandPlan.{HoldsAtStop}
use Rattle.run_core.specs.FileFormats.{FileFormat}
use Rattle.run_core.specs.Outcomes.{Outcomes, AnyOutcome, EndsWithGuarantee, stream_of}
use Rattle.run_core.specs.Program.{Program}
use Rattle.run_core.specs.Replies.{AllowsReply, RepliesTo, StopsRunAt}
use Rattle.run_core.specs.Reply.{Reply, no_memory}
use Rattle.run_core.specs.Shelf.{ShelfChange, ObservesFile, since}
use Rattle.run_core.specs.SinkChanges.{SinkChange, Appends, IsWrittenUpToFault, IsWrittenTo, IsCutShort, IsDelivered}
use Rattle.run_core.specs.declared.status.Status.{Status}
use Rattle.run_core.specs.declared.status.Status.TheVariants as status
use Rattle.run_core.specs.declared.status.Stream.TheVariants.{Output}

-- The run delivered one reply that the observed files allow: with its status, and its text on its stream.
pub record DeliversReply (program : Program) (words : List (List ℕ)) (shelf : ShelfChange) (out err : SinkChange) (ended : Status) : Type 0 where
  pub reply : Reply
  pub allowed : AllowsReply program words shelf reply
  pub given : IsDelivered out err reply ended

-- ---- the causes of each status

-- What holds if a file stopped the run, by exit status. It is the last file that the run opened. It could not be read, memory for it ran
-- out, or it is refused: a reply exists for this (`StopsRunAt`), with this status, and the error stream has its line.
abbrev pub HoldsAtFile : Status → (err : SinkChange) → ShelfChange → FileFormat → (file : List ℕ) → Type 0
HoldsAtFile ended err seen format file = (given : Reply) × StopsRunAt seen format file given × (given.status ≡ ended) × IsWrittenUpToFault err given.text

-- What holds if every file was accepted, by exit status. `WriteFault`: an outcome was reached whose text goes to the output, which failed
-- after a prefix of it; the error stream says so. `Memory`: memory for the outcome ran out. Any other status: an outcome with this status
-- was reached, its text guarantees what is promised, and the text was written to its stream; the other stream is unchanged.
abbrev pub HoldsAtOutcome : Status → (on_output : Bool) → (out err : SinkChange) → Outcomes → Type 0
HoldsAtOutcome status.WriteFault on_output out err outcomes =
    (ended : Status) × (text : List ℕ) × AnyOutcome (EndsWithGuarantee ended text) outcomes × (stream_of on_output ended ≡ Output) × IsCutShort out err text
HoldsAtOutcome status.Memory on_output out err outcomes = IsWrittenUpToFault err no_memory.text
HoldsAtOutcome ended on_output out err outcomes = (text : List ℕ) × AnyOutcome (EndsWithGuarantee ended text) outcomes × IsWrittenTo (stream_of on_output ended) out err text

-- Why a run ended with this status, for arguments that are a command: a file stopped it, the first that was not accepted, or it reached an
-- outcome.
pub record HasCause (program : Program) (ended : Status) (words : List (List ℕ)) (shelf : ShelfChange) (out err : SinkChange) : Type 0 where
  pub command : program.Command
  pub asked : program.ParseAs words command
  pub along : HoldsAtStop shelf.only_failures (program.plan_of command) shelf.before
      (λ format file before. HoldsAtFile ended err (since before shelf) format file)
      (λ outcomes before. (shelf.after ≡ before) × HoldsAtOutcome ended (program.reports_on_output command) out err outcomes)

-- Each status except usage has its cause.
pub record HasCauses (Cause : Status → Type 0) (ended : Status) : Type 0 where
  pub read_fault : ended ≡ status.ReadFault → Cause status.ReadFault
  pub bad_description : ended ≡ status.BadDescription → Cause status.BadDescription
  pub bad_text : ended ≡ status.BadText → Cause status.BadText
  pub violated : ended ≡ status.Violated → Cause status.Violated
  pub not_emittable : ended ≡ status.NotEmittable → Cause status.NotEmittable
  pub write_fault : ended ≡ status.WriteFault → Cause status.WriteFault
  pub memory : ended ≡ status.Memory → Cause status.Memory
  pub done : ended ≡ status.Done → Cause status.Done

-- ---- what commands write

-- The file, as observed by the call, parses to a value for which `IsSo` holds.
pub record WasRead (shelf : ShelfChange) (format : FileFormat) (file : List ℕ) (IsSo : format.Said → Type 0) : Type 0 where
  pub bytes : List ℕ
  pub held : ObservesFile shelf file (Some bytes)
  pub said : format.Said
  pub read : format.Reads bytes said
  pub so : IsSo said

-- A text was written to the output completely, and satisfies `Keep`.
abbrev pub Wrote : (out : SinkChange) → (List ℕ → Type 0) → Type 0
Wrote out Keep = (text : List ℕ) × Appends out text × Keep text

-- ---- if the files are observable and no fault occurred

-- The arguments and the observable files determine the reply of the run up to this relation, unless memory runs out: they allow this reply,
-- and every other is related to it.
abbrev pub IsCompleteUpTo : Program → (AreRelated : (given other : Reply) → Type 0) → List (List ℕ) → ShelfChange → (out err : SinkChange) → Status → Type 0
IsCompleteUpTo program AreRelated words shelf out err ended =
    IfSome shelf.before.told (λ files. (Rose shelf.before.faults shelf.after.faults → ⊥)
    → (ended ≡ status.Memory)
    ⊎ ((given : Reply) × RepliesTo program words files given × ((other : Reply) → RepliesTo program words files other → AreRelated given other) × IsDelivered out err given ended))
