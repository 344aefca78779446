-- The outcomes of a command for its input, in one form for all commands.
use Rattle.std.specs.Prelude.{◌≡◌, ◌⊎◌, ℕ, List, [], ◌∷◌, Bool, if◌then◌else◌}
use Rattle.run_core.specs.Reply.{Reply}
use Rattle.run_core.specs.declared.status.Status.{Status}
use Rattle.run_core.specs.declared.status.Status.TheVariants as status
use Rattle.run_core.specs.declared.status.Stream.{Stream}
use Rattle.run_core.specs.declared.status.Stream.TheVariants.{Output, Errors}

-- An outcome of a command: its status, its condition, the property that characterizes its text, and what its text guarantees to an
-- operator.
pub record Outcome : Type 1 where
  pub status : Status
  pub when : Type 0
  pub is : List ℕ → Type 0
  pub guarantees : List ℕ → Type 0

-- The outcomes of a command, in order of precedence.
abbrev pub Outcomes : Type 1
Outcomes = List Outcome

-- One of the outcomes has the property.
abbrev pub AnyOutcome : (Outcome → Type 0) → Outcomes → Type 0
AnyOutcome P [] = ⊥
AnyOutcome P (end ∷ outcomes) = P end ⊎ AnyOutcome P outcomes

-- The single outcome of a command that always writes a text.
abbrev pub writes : (is guarantees : List ℕ → Type 0) → Outcomes
writes is guarantees = record { status = status.Done; when = Unit {0}; is = is; guarantees = guarantees } ∷ []

-- The outcome that reports a reason, if the condition holds and there is a reason.
abbrev pub says_why : Status → (holds : Type 0) → (IsWhy : List ℕ → Type 0) → Outcome
says_why ended holds IsWhy = record { status = ended; when = holds × (line : List ℕ) × IsWhy line; is = IsWhy; guarantees = IsWhy }

-- The outcome is reached with this status and text.
abbrev pub EndsIn : Status → (text : List ℕ) → Outcome → Type 0
EndsIn ended text end = (ended ≡ end.status) × end.when × end.is text

-- The stream of an outcome's text: the output if the status is done, or if the text is a report of violations and the command reports on
-- the output; otherwise the error stream.
abbrev pub stream_of : (on_output : Bool) → Status → Stream
stream_of on_output status.Done = Output
stream_of on_output status.Violated = if on_output then Output else Errors
stream_of on_output _ = Errors

-- A reply that outcomes may give: that of one of its outcomes that are reached, on the stream of its text.
abbrev pub Answers : (on_output : Bool) → Outcomes → Reply → Type 0
Answers on_output outcomes reply = (reply.stream ≡ stream_of on_output reply.status) × AnyOutcome (EndsIn reply.status reply.text) outcomes

-- The reply by the first of the outcomes that is reached.
abbrev pub AnswersFirst : Outcomes → Reply → Type 0
AnswersFirst [] reply = ⊥
AnswersFirst (end ∷ outcomes) reply = EndsIn reply.status reply.text end ⊎ ((end.when → ⊥) × AnswersFirst outcomes reply)

-- The outcome is reached with this status and text, and the text has its guarantee.
abbrev pub EndsWithGuarantee : Status → (text : List ℕ) → Outcome → Type 0
EndsWithGuarantee ended text end = EndsIn ended text end × end.guarantees text
