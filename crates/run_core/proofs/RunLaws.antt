-- Consequences of the single reply of a run, by the point at which it stopped: a table of the facts for each status.
use Rattle.std.proofs.Common.{◌≡◌, ◌⊎◌, inl, inr, ℕ, List, None, Some, Bool, true, false, true≢false, refl, ap, sym, subst, ◌∙◌}
use Rattle.std.specs.Prelude.{◌↔◌, IsTrue}
use Rattle.run_core.specs.Outcomes.{Outcomes, Answers, AnyOutcome, EndsWithGuarantee, stream_of}
use Rattle.run_core.specs.FileFormats.{FileFormat}
use Rattle.run_core.specs.Program.{Program, FormNothing, usage}
use Rattle.run_core.specs.Promises.{HoldsAtFile, HoldsAtOutcome, DeliversReply, HasCause, HasCauses}
use Rattle.run_core.specs.Replies.{StopsRunAt, NoMemory, Stopped, IsPossibleReply}
use Rattle.run_core.specs.Reply.{Reply, error, no_memory}
use Rattle.run_core.specs.Shelf.{Shelf, ShelfChange, since}
use Rattle.run_core.specs.SinkChanges.{SinkChange, IsWrittenUpToFault, IsWrittenTo, IsDelivered}
use Rattle.run_core.specs.declared.status.Status.{Status}
use Rattle.run_core.specs.declared.status.Status.TheVariants as status
use Rattle.run_core.specs.declared.status.Stream.{Stream}
use Rattle.run_core.specs.declared.status.Stream.TheVariants.{Output, Errors}
use Rattle.run_core.proofs.CommandPlanLaws.{FilesStay, HoldsAtEnds, holds_at_stop, files_stay, unchanged, wherever}
use Rattle.run_core.proofs.OutcomesLaws.{is_end, AreKept, IsKept, from_one, told_of, end_status}
use Rattle.run_core.proofs.FormatLaws.{IsLawfulFormat, of_refused}

-- The arguments form a command that reports violations on the output.
abbrev pub ReportsOnOutput : Program → List (List ℕ) → Type 0
ReportsOnOutput program words = (command : program.Command) × program.ParseAs words command × IsTrue (program.reports_on_output command)

-- ---- facts at the point where a run stopped, by its status

-- One of the outcomes was reached with this status, and its text was written to its stream.
abbrev GaveOutcome : (out err : SinkChange) → Status → (on : Bool) → Outcomes → Type 0
GaveOutcome out err t on outcomes = (text : List ℕ) × AnyOutcome (EndsWithGuarantee t text) outcomes × IsWrittenTo (stream_of on t) out err text

-- An outcome whose text was delivered has a status of outcomes.
of_end : (out err : SinkChange) (t : Status) (on : Bool) (outcomes : Outcomes) → is_end t ≡ true → GaveOutcome out err t on outcomes → HoldsAtOutcome t on out err outcomes
of_end out err status.Done on outcomes is here = here
of_end out err status.Violated on outcomes is here = here
of_end out err status.NotEmittable on outcomes is here = here
of_end out err status.BadText on outcomes is here = here
of_end out err t on outcomes is here = cc is

-- No outcome has status usage.
no_usage : (out err : SinkChange) (on : Bool) (outcomes : Outcomes) → AreKept outcomes → GaveOutcome out err status.Usage on outcomes → ⊥
no_usage out err on outcomes kept gave =
    from_one IsKept (EndsWithGuarantee status.Usage gave.0) outcomes (λ end is told. true≢false (sym is.status ∙ ap is_end (sym told.0.0))) kept.each gave.1

-- A line for the error stream ends the run with its status.
pub ends_in_error : (out err : SinkChange) (s : Status) (reply : Reply) (ended : Status) (line : List ℕ) → reply ≡ error ended line → IsDelivered out err reply s
    → (s ≡ ended) × (out.held_after ≡ out.held_before) × IsWrittenUpToFault err line
ends_in_error out err s reply ended line is given = elim (subst (λ (r : Reply). IsDelivered out err r s) is given) [
  | inl whole ↦ (whole.0, whole.1.0, whole.1.1)
  | inr cut ↦ let other = cut.1 in cc other
]

-- A text that is neither done nor reported on the output is written to the error stream.
to_errors : (on : Bool) (s : Status) → (s ≡ status.Done → ⊥) → (s ≡ status.Violated → on ≡ true → ⊥) → stream_of on s ≡ Errors
to_errors on status.Done not_done not_reported = absurd (not_done refl)
to_errors true status.Violated not_done not_reported = absurd (not_reported refl refl)
to_errors false status.Violated not_done not_reported = refl
to_errors on s not_done not_reported = refl

-- A file that stops a run has a reply with one of four statuses, for the error stream.
pub stop_status : (seen : ShelfChange) (format : FileFormat) (file : List ℕ) (P : Status → Type 0) (given : Reply) → IsLawfulFormat format
    → P status.ReadFault → P status.Memory → P status.BadDescription → P status.BadText → StopsRunAt seen format file given → P given.status
stop_status seen format file P given laws unread memory description text (NoMemory began is) = subst (λ (r : Reply). P r.status) (sym is) memory
stop_status seen format file P given laws unread memory description text (Stopped None last is) = subst (λ (r : Reply). P r.status) (sym is) unread
stop_status seen format file P given laws unread memory description text (Stopped (Some bytes) last is) =
    subst (λ (r : Reply). P r.status) (sym is.replied) (of_refused P description text format laws)

stop_stream : (seen : ShelfChange) (format : FileFormat) (file : List ℕ) (given : Reply) → StopsRunAt seen format file given → given.stream ≡ Errors
stop_stream seen format file given (NoMemory began is) = ap (λ (r : Reply). r.stream) is
stop_stream seen format file given (Stopped None last is) = ap (λ (r : Reply). r.stream) is
stop_stream seen format file given (Stopped (Some bytes) last is) = ap (λ (r : Reply). r.stream) is.replied

-- A cause for each status except usage, one by one.
pub each_cause : (Cause : Status → Type 0) (ended : Status) → ((t : Status) → (t ≡ status.Usage → ⊥) → ended ≡ t → Cause t) → HasCauses Cause ended
each_cause Cause ended caused = record {
  read_fault = caused status.ReadFault (λ e. cc e);
  bad_description = caused status.BadDescription (λ e. cc e);
  bad_text = caused status.BadText (λ e. cc e);
  violated = caused status.Violated (λ e. cc e);
  not_emittable = caused status.NotEmittable (λ e. cc e);
  write_fault = caused status.WriteFault (λ e. cc e);
  memory = caused status.Memory (λ e. cc e);
  done = caused status.Done (λ e. cc e);
}

-- ---- the clauses

module _ (program : Program) (kept : (command : program.Command) → HoldsAtEnds AreKept (program.plan_of command)) where
  module _ (words : List (List ℕ)) (shelf : ShelfChange) (out err : SinkChange) (s : Status) (gave : DeliversReply program words shelf out err s) where
    -- The files are unchanged, and the count of errors did not decrease.
    pub shelf_stays : FilesStay shelf.before shelf.after
    shelf_stays = elim gave.allowed [
      | inl nothing ↦ unchanged shelf.before shelf.after nothing.2
      | inr asks ↦ files_stay shelf.only_failures (program.reports_on_output asks.0) (program.plan_of asks.0) shelf.before shelf.after gave.reply asks.2
    ]

    in_error : (ended : Status) (line : List ℕ) → gave.reply ≡ error ended line → (s ≡ ended) × (out.held_after ≡ out.held_before) × IsWrittenUpToFault err line
    in_error ended line is = ends_in_error out err s gave.reply ended line is gave.given

    -- A reply for the error stream ends the run with its status, and its line is written.
    said_error : gave.reply.stream ≡ Errors → (gave.reply.status ≡ s) × IsWrittenUpToFault err gave.reply.text
    said_error errors = elim gave.given [
      | inl whole ↦ (sym whole.0, (subst (λ (stream : Stream). IsWrittenTo stream out err gave.reply.text) errors whole.1).1)
      | inr cut ↦ let other = cut.1 in cc (errors, other)
    ]

    at_file : (format : FileFormat) (file : List ℕ) (at : Shelf) → StopsRunAt (since at shelf) format file gave.reply → HoldsAtFile s err (since at shelf) format file
    at_file format file at stops = let said = said_error (stop_stream (since at shelf) format file gave.reply stops) in (gave.reply, stops, said.0, said.1)

    at_outcomes : (on : Bool) (outcomes : Outcomes) → AreKept outcomes → (gave.reply ≡ no_memory) ⊎ Answers on outcomes gave.reply → HoldsAtOutcome s on out err outcomes
    at_outcomes on outcomes owed (inl lack) = let end = in_error _ _ lack in subst (λ (t : Status). HoldsAtOutcome t on out err outcomes) (sym end.0) end.2
    at_outcomes on outcomes owed (inr answers) =
        let reply = gave.reply in
        let told = told_of outcomes owed reply.status reply.text answers.1 in
        let is = end_status outcomes owed reply.status reply.text answers.1 in
        elim gave.given [
          | inl whole ↦
              let went = subst (λ (stream : Stream). IsWrittenTo stream out err reply.text) answers.0 whole.1 in
              subst (λ (t : Status). HoldsAtOutcome t on out err outcomes) (sym whole.0) (of_end out err reply.status on outcomes is (reply.text, told, went))
          | inr cut ↦ subst (λ (t : Status). HoldsAtOutcome t on out err outcomes) (sym cut.0) (reply.status, reply.text, told, sym answers.0 ∙ cut.1, cut.2)
        ]

    came : ((s ≡ status.Usage) × FormNothing program.ParseAs words) ⊎ HasCause program s words shelf out err
    came = elim gave.allowed [
      | inl nothing ↦ inl ((in_error _ _ nothing.1).0, nothing.0)
      | inr asks ↦ inr (record {
        command = asks.0;
        asked = asks.1;
        along = holds_at_stop AreKept shelf.only_failures (program.plan_of asks.0) shelf.before _ _ _ _ (kept asks.0) (λ format file at laws here. at_file format file at here)
            (λ outcomes at owed here. (here.0, at_outcomes (program.reports_on_output asks.0) outcomes owed here.1)) asks.2;
      })
    ]

    -- The cause of each status except usage is its row.
    pub caused : (t : Status) → (t ≡ status.Usage → ⊥) → s ≡ t → HasCause program t words shelf out err
    caused t other is = elim came [
      | inl none ↦ absurd (other (sym is ∙ none.0))
      | inr there ↦ subst (λ (t : Status). HasCause program t words shelf out err) is there
    ]

    pub usage_law : (s ≡ status.Usage) ↔ FormNothing program.ParseAs words
    usage_law = elim came [
      | inl none ↦ (λ is. none.1, λ nothing. none.0)
      | inr there ↦ (λ is. absurd (nowhere (subst (λ (t : Status). HasCause program t words shelf out err) is there)), λ none. absurd (none there.command there.asked))
    ]
      where
        nowhere : HasCause program status.Usage words shelf out err → ⊥
        nowhere there = wherever AreKept shelf.only_failures (program.plan_of there.command) shelf.before _ _ (kept there.command)
            (λ format file at laws here. stop_status (since at shelf) format file (λ t. t ≡ status.Usage → ⊥) here.0 laws (λ e. cc e) (λ e. cc e) (λ e. cc e) (λ e. cc e) here.1 here.2)
            (λ outcomes at owed here. no_usage out err (program.reports_on_output there.command) outcomes owed here.1) there.along

    -- ---- unchanged streams

    -- The reply is for the stream of its status.
    error_goes : (on : Bool) (ended : Status) (line : List ℕ) → gave.reply ≡ error ended line → Errors ≡ stream_of on ended → gave.reply.stream ≡ stream_of on gave.reply.status
    error_goes on ended line is errors = subst (λ (r : Reply). r.stream ≡ stream_of on r.status) (sym is) errors

    file_goes : (on : Bool) (format : FileFormat) (file : List ℕ) (at : Shelf) → IsLawfulFormat format → StopsRunAt (since at shelf) format file gave.reply → gave.reply.stream ≡ stream_of on gave.reply.status
    file_goes on format file at laws stops =
        stop_stream (since at shelf) format file gave.reply stops ∙ stop_status (since at shelf) format file (λ t. Errors ≡ stream_of on t) gave.reply laws refl refl refl refl stops

    outcomes_go : (on : Bool) (outcomes : Outcomes) → (gave.reply ≡ no_memory) ⊎ Answers on outcomes gave.reply → gave.reply.stream ≡ stream_of on gave.reply.status
    outcomes_go on outcomes (inl lack) = error_goes on _ _ lack refl
    outcomes_go on outcomes (inr answers) = answers.0

    -- Arguments that form no command have a reply on the error stream, with status usage only.
    usage_goes : gave.reply ≡ usage program → (s ≡ status.Usage) × (gave.reply.stream ≡ Errors)
    usage_goes is = ((in_error _ _ is).0, ap (λ (r : Reply). r.stream) is)

    goes : (command : program.Command) → IsPossibleReply (program.reports_on_output command) (program.plan_of command) shelf gave.reply
        → gave.reply.stream ≡ stream_of (program.reports_on_output command) gave.reply.status
    goes command may =
        let on = program.reports_on_output command in
        wherever AreKept shelf.only_failures (program.plan_of command) shelf.before _ _ (kept command) (file_goes on) (λ outcomes at owed here. outcomes_go on outcomes here.1) may

    -- So it is for the stream of the status of the run, unless the output failed.
    stream_is : (command : program.Command) → IsPossibleReply (program.reports_on_output command) (program.plan_of command) shelf gave.reply → (s ≡ status.WriteFault → ⊥)
        → gave.reply.stream ≡ stream_of (program.reports_on_output command) s
    stream_is command may not_cut = elim gave.given [
      | inl whole ↦ goes command may ∙ ap (stream_of (program.reports_on_output command)) (sym whole.0)
      | inr cut ↦ absurd (not_cut cut.0)
    ]

    -- A run that ends neither with status done, nor with a write fault, nor with a report on the output has nothing for
    -- the output.
    pub nothing_to_write : (s ≡ status.Done → ⊥) → (s ≡ status.WriteFault → ⊥) → (s ≡ status.Violated → ReportsOnOutput program words → ⊥) → gave.reply.stream ≡ Errors
    nothing_to_write not_done not_cut not_reported = elim gave.allowed [
      | inl nothing ↦ (usage_goes nothing.1).1
      | inr asks ↦ stream_is asks.0 asks.2 not_cut ∙ to_errors (program.reports_on_output asks.0) s not_done (λ violated on. not_reported violated (asks.0, asks.1, on))
    ]

    -- A run that ends with status done, or with a report on the output, has a text for the output.
    pub something_to_write : ((a b : program.Command) → program.ParseAs words a → program.ParseAs words b → a ≡ b)
        → (s ≡ status.Done) ⊎ ((s ≡ status.Violated) × ReportsOnOutput program words) → gave.reply.stream ≡ Output
    something_to_write one (inl done) = elim gave.allowed [
      | inl nothing ↦ let other = (usage_goes nothing.1).0 in cc (done, other)
      | inr asks ↦ stream_is asks.0 asks.2 (λ cut. cc (done, cut)) ∙ ap (stream_of (program.reports_on_output asks.0)) done
    ]
    something_to_write one (inr (violated, (command, asked, on))) = elim gave.allowed [
      | inl nothing ↦ absurd (nothing.0 command asked)
      | inr asks ↦
          let same = one asks.0 command asks.1 asked in
          stream_is asks.0 asks.2 (λ cut. cc (violated, cut)) ∙ (λ i. stream_of ((ap program.reports_on_output same ∙ on) i) (violated i))
    ]

-- Such a run has no write fault.
pub no_fault : {Reported : Type 0} (s : Status) → (s ≡ status.Done) ⊎ ((s ≡ status.Violated) × Reported) → s ≡ status.WriteFault → ⊥
no_fault s (inl done) cut = cc (done, cut)
no_fault s (inr (violated, asked)) cut = cc (violated, cut)
