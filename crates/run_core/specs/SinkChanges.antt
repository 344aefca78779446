-- What one call writes to its sinks.
use Rattle.std.specs.Prelude.{◌≡◌, ℕ, ◌⊎◌, List, Option, codes}
use Rattle.std.specs.Io.KnownBytes.{append_known}
use Rattle.edge_io.specs.Counts.{Rose}
use Rattle.edge_io.specs.Observable.{AppendsPrefixOf}
use Rattle.edge_io.specs.declared.traits.Sink.{Ghosts}
use Rattle.run_core.specs.Reply.{Reply}
use Rattle.run_core.specs.declared.status.Status.{Status}
use Rattle.run_core.specs.declared.status.Status.TheVariants as status
use Rattle.run_core.specs.declared.status.Stream.{Stream}
use Rattle.run_core.specs.declared.status.Stream.TheVariants.{Output, Errors}

-- A sink before and after a call.
pub record SinkChange : Type 0 where
  pub held_before : Option (List ℕ)
  pub held_after : Option (List ℕ)
  pub faults_before : ℕ
  pub faults_after : ℕ

-- A sink before and after a call, as its implementation models it.
abbrev pub sink_change : {S : Type 0} → Ghosts S → (old new : S) → SinkChange
sink_change O old new = record { held_before = O.held old; held_after = O.held new; faults_before = O.faults old; faults_after = O.faults new }

-- The sink received all of these bytes.
abbrev pub Appends : SinkChange → List ℕ → Type 0
Appends sink bytes = sink.held_after ≡ append_known sink.held_before bytes

-- The sink received a prefix of these bytes.
abbrev pub AppendsSomeOf : SinkChange → List ℕ → Type 0
AppendsSomeOf sink bytes = AppendsPrefixOf sink.held_before sink.held_after bytes

-- The line is written completely if the count of errors did not increase, and otherwise a prefix of it.
abbrev pub IsWrittenUpToFault : SinkChange → List ℕ → Type 0
IsWrittenUpToFault err line = AppendsSomeOf err line × (Rose err.faults_before err.faults_after ⊎ Appends err line)

-- A text was written to its stream, and the other stream is unchanged.
abbrev pub IsWrittenTo : Stream → (out err : SinkChange) → (text : List ℕ) → Type 0
IsWrittenTo Output out err text = Appends out text × (err.held_after ≡ err.held_before)
IsWrittenTo Errors out err text = (out.held_after ≡ out.held_before) × IsWrittenUpToFault err text

-- The output failed after a prefix of its text, and the error stream reports it.
abbrev pub IsCutShort : (out err : SinkChange) → (text : List ℕ) → Type 0
IsCutShort out err text = AppendsSomeOf out text × Rose out.faults_before out.faults_after × IsWrittenUpToFault err (codes "topos: cannot write\n")

-- The delivery of a reply: the run ends with its status, and its text is written to its stream; or the text is for the output, and the
-- output failed. So the reply determines status and output if the output had no error; the sink determines the part of the text before an
-- error.
abbrev pub IsDelivered : (out err : SinkChange) → Reply → (ended : Status) → Type 0
IsDelivered out err reply ended =
    ((ended ≡ reply.status) × IsWrittenTo reply.stream out err reply.text)
    ⊎ ((ended ≡ status.WriteFault) × (reply.stream ≡ Output) × IsCutShort out err reply.text)
