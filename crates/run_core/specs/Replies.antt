-- The replies that a run may give, by its observations of its files; and the only reply if the files are observable.
use Rattle.std.specs.Prelude.{◌≡◌, ℕ, ◌⊎◌, List, Option, None, Some, Bool, IfSome}
use Rattle.std.specs.FinMap.{get}
use Rattle.edge_io.specs.Observable.{Files}
use Rattle.run_core.specs.CommandPlan.{CommandPlan, HoldsAtStop}
use Rattle.run_core.specs.FileFormats.{FileFormat, IsRefused}
use Rattle.run_core.specs.Outcomes.{Answers, AnswersFirst}
use Rattle.run_core.specs.Program.{Program, FormNothing, usage}
use Rattle.run_core.specs.Reply.{Reply, cannot_read, no_memory}
use Rattle.run_core.specs.Shelf.{Shelf, ShelfChange, ObservesFile, BeganOne, since, taken_of}

-- A file ends the run with this reply, by the observation of it: its bytes, or `None` if it could not be read.
abbrev pub Stops : FileFormat → (file : List ℕ) → Option (List ℕ) → Reply → Type 0
Stops format file None given = given ≡ cannot_read file
Stops format file (Some bytes) given = IsRefused format bytes given

-- A file was opened, and none after it, and this was observed of it.
pub record OpensLast (shelf : ShelfChange) (format : FileFormat) (file : List ℕ) (saw : Option (List ℕ)) : Type 0 where
  pub began : BeganOne shelf.before shelf.after
  pub held : ObservesFile shelf file saw
  pub taken : IfSome saw (λ bytes. shelf.after.taken ≡ taken_of format.most bytes)

-- The reason why a file ends the run with this reply: memory for it ran out, or the reply follows from the observation
-- of it.
pub data StopsRunAt (shelf : ShelfChange) (format : FileFormat) (file : List ℕ) (given : Reply) : Type 0 where
  NoMemory : BeganOne shelf.before shelf.after → given ≡ no_memory → StopsRunAt shelf format file given
  Stopped : (saw : Option (List ℕ)) → OpensLast shelf format file saw → Stops format file saw given → StopsRunAt shelf format file given

-- The reason why a command may give a reply: a file of its plan stopped it, or it reached its outcomes, for which no file is read. Memory
-- for the outcome ran out, or the reply is that of the outcome.
abbrev pub IsPossibleReply : (on_output : Bool) → CommandPlan → ShelfChange → Reply → Type 0
IsPossibleReply on_output plan shelf given = HoldsAtStop shelf.only_failures plan shelf.before
    (λ format file before. StopsRunAt (since before shelf) format file given)
    (λ outcomes before. (shelf.after ≡ before) × ((given ≡ no_memory) ⊎ Answers on_output outcomes given))

-- For arguments that form no command the reply is the usage text, and no file is opened.
abbrev pub AllowsReply : Program → List (List ℕ) → ShelfChange → Reply → Type 0
AllowsReply program words shelf given =
    (FormNothing program.ParseAs words × (given ≡ usage program) × (shelf.after ≡ shelf.before))
    ⊎ ((command : program.Command) × program.ParseAs words command × IsPossibleReply (program.reports_on_output command) (program.plan_of command) shelf given)

-- ---- if the files are observable

-- A shelf with these observable files, before anything is read from it.
abbrev pub observable_shelf : Files → Shelf
observable_shelf told = record { told = Some told; faults = 0; begins = 0; taken = 0 }

-- The reply to a command: that of the first file that is missing or rejected, or that of the first outcome that is reached.
abbrev pub Replies : (on_output : Bool) → CommandPlan → Files → Reply → Type 0
Replies on_output plan told given = HoldsAtStop (Unit {0}) plan (observable_shelf told)
    (λ format file before. Stops format file (get told file) given)
    (λ outcomes before. Answers on_output outcomes given × AnswersFirst outcomes given)

-- The reply to the arguments of a command line.
abbrev pub RepliesTo : Program → List (List ℕ) → Files → Reply → Type 0
RepliesTo program words told given =
    (FormNothing program.ParseAs words × (given ≡ usage program))
    ⊎ ((command : program.Command) × program.ParseAs words command × Replies (program.reports_on_output command) (program.plan_of command) told given)
