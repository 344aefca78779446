-- Further consequences of the promises of a run: the status of a command in terms of its observable files, and the number of files that a
-- run opened before memory ran out.
use Rattle.std.proofs.Common.{◌≡◌, ◌⊎◌, ◌≤◌, ◌+◌, inl, inr, ℕ, zero, suc, min, List, [], ◌∷◌, length, ◌-◌, ◌^◌, Option, None, Some, Bool, refl, ap, sym, subst, ◌∙◌, arith}
use Rattle.std.specs.Prelude.{IfSome}
use Rattle.std.specs.FinMap.{get}
use Rattle.edge_io.specs.Counts.{more, Rose}
use Rattle.edge_io.specs.Observable.{Files}
use Rattle.run_core.specs.CommandPlan.{CommandPlan, reads, ends, HoldsAtStop}
use Rattle.run_core.specs.FileFormats.{FileFormat}
use Rattle.run_core.specs.Outcomes.{Outcomes, Answers, AnswersFirst}
use Rattle.run_core.specs.Program.{Program}
use Rattle.run_core.specs.Promises.{HoldsAtFile, HoldsAtOutcome, HasCause, IsCompleteUpTo}
use Rattle.run_core.specs.Replies.{Replies, RepliesTo, Stops, observable_shelf}
use Rattle.run_core.specs.Reply.{Reply}
use Rattle.run_core.specs.Shelf.{Shelf, ShelfChange, since}
use Rattle.run_core.specs.SinkChanges.{SinkChange, IsWrittenTo, IsDelivered}
use Rattle.run_core.specs.declared.status.Status.{Status}
use Rattle.run_core.specs.declared.status.Status.TheVariants as status
use Rattle.run_core.proofs.CommandPlanLaws.{HoldsAtEnds, began_at, between, stops_alike, stops_or_read}
use Rattle.run_core.proofs.OutcomesLaws.{AreKept}

-- ---- streams without errors

-- If the output had no error, the run ends with the status of the reply, and the text was written to its stream, completely for the output.
pub given_whole : (out err : SinkChange) (reply : Reply) (ended : Status) → IsDelivered out err reply ended → (Rose out.faults_before out.faults_after → ⊥)
    → (ended ≡ reply.status) × IsWrittenTo reply.stream out err reply.text
given_whole out err reply ended given no_fault = elim given [ inl whole ↦ whole | inr cut ↦ absurd (no_fault cut.2.1) ]

-- ---- the status of a command in terms of its observable files

-- Outcomes end with the status of the first that is reached.
abbrev pub EndsAs : Outcomes → Status → Type 0
EndsAs [] ended = ⊥
EndsAs (end ∷ outcomes) ended = (end.when × (ended ≡ end.status)) ⊎ ((end.when → ⊥) × EndsAs outcomes ended)

-- A file has a parse result for which `Follow` holds.
pub record HasReading (told : Files) (format : FileFormat) (file : List ℕ) (Follow : format.Said → Type 0) : Type 0 where
  pub bytes : List ℕ
  pub held : get told file ≡ Some bytes
  pub said : format.Said
  pub read : format.Reads bytes said
  pub follow : Follow said

-- The status of a plan by the observable files: that of the reply for the first file without a parse result, or that of the first outcome
-- that is reached.
abbrev pub EndsByFiles : Files → CommandPlan → Status → Type 0
EndsByFiles told (ends outcomes) ended = EndsAs outcomes ended
EndsByFiles told (reads format file next) ended =
    ((why : Reply) × Stops format file (get told file) why × (ended ≡ why.status)) ⊎ HasReading told format file (λ said. EndsByFiles told (next said) ended)

ends_once : (outcomes : Outcomes) (s t : Status) → EndsAs outcomes s → EndsAs outcomes t → s ≡ t
ends_once [] s t p q = absurd p
ends_once (end ∷ outcomes) s t (inl p) (inl q) = p.1 ∙ sym q.1
ends_once (end ∷ outcomes) s t (inl p) (inr q) = absurd (q.0 p.0)
ends_once (end ∷ outcomes) s t (inr p) (inl q) = absurd (p.0 q.0)
ends_once (end ∷ outcomes) s t (inr p) (inr q) = ends_once outcomes s t p.1 q.1

-- There is at most one such status.
pub ends_by_once : (told : Files) (plan : CommandPlan) (s t : Status) → HoldsAtEnds AreKept plan → EndsByFiles told plan s → EndsByFiles told plan t → s ≡ t
ends_by_once told (ends outcomes) s t kept p q = ends_once outcomes s t p q
ends_by_once told (reads format file next) s t kept (inl p) (inl q) =
    p.2 ∙ (stops_alike format file (get told file) p.0 q.0 p.1 q.1).0 ∙ sym q.2
ends_by_once told (reads format file next) s t kept (inl p) (inr q) = stops_or_read format kept.0 file q.bytes (get told file) p.0 q.said q.held p.1 q.read
ends_by_once told (reads format file next) s t kept (inr p) (inl q) = stops_or_read format kept.0 file p.bytes (get told file) q.0 p.said p.held q.1 p.read
ends_by_once told (reads format file next) s t kept (inr p) (inr q) =
    let here = p.held in
    let there = q.held in
    let bytes : q.bytes ≡ p.bytes = cc (here, there) in
    let said : q.said ≡ p.said = kept.0.reads_once p.bytes q.said p.said (subst (λ (bs : List ℕ). format.Reads bs q.said) bytes q.read) p.read in
    ends_by_once told (next p.said) s t (kept.1 p.bytes p.said p.read) p.follow (subst (λ (x : format.Said). EndsByFiles told (next x) t) said q.follow)

ends_as : (outcomes : Outcomes) (reply : Reply) → AnswersFirst outcomes reply → EndsAs outcomes reply.status
ends_as [] reply first = absurd first
ends_as (end ∷ outcomes) reply (inl here) = inl (here.1, here.0)
ends_as (end ∷ outcomes) reply (inr later) = inr (later.0, ends_as outcomes reply later.1)

ends_by : (on : Bool) (plan : CommandPlan) (told : Files) (reply : Reply) (at : Shelf) → at.told ≡ Some told
    → HoldsAtStop (Unit {0}) plan at (λ format file before. Stops format file (get told file) reply) (λ outcomes before. Answers on outcomes reply × AnswersFirst outcomes reply)
    → EndsByFiles told plan reply.status
ends_by on (ends outcomes) told reply at is answers = ends_as outcomes reply answers.1
ends_by on (reads format file next) told reply at is (inl stops) = inl (reply, stops, refl)
ends_by on (reads format file next) told reply at is (inr go) = inr (record {
  bytes = go.bytes;
  held = subst (λ (t : Option Files). IfSome t (λ files. get files file ≡ Some go.bytes)) is go.held;
  said = go.said;
  read = go.read;
  follow = ends_by on (next go.said) told reply go.after (go.took.began.told ∙ is) go.next;
})

module _ (program : Program) (kept : (command : program.Command) → HoldsAtEnds AreKept (program.plan_of command))
    (one : (words : List (List ℕ)) (a b : program.Command) → program.ParseAs words a → program.ParseAs words b → a ≡ b) where
  -- If neither shelf nor output had an error, the observable files alone determine the status of a command, unless memory runs out.
  abbrev pub EndsAsTold : List (List ℕ) → ShelfChange → SinkChange → Status → Type 0
  EndsAsTold words shelf out ended = (command : program.Command) → program.ParseAs words command → IfSome shelf.before.told (λ files.
      (Rose shelf.before.faults shelf.after.faults → ⊥) → (Rose out.faults_before out.faults_after → ⊥)
      → (ended ≡ status.Memory)
      ⊎ (EndsByFiles files (program.plan_of command) ended × ((other : Status) → EndsByFiles files (program.plan_of command) other → other ≡ ended)))

  along_of : (words : List (List ℕ)) (command : program.Command) (files : Files) (reply : Reply) → program.ParseAs words command → RepliesTo program words files reply
      → Replies (program.reports_on_output command) (program.plan_of command) files reply
  along_of words command files reply asked (inl nothing) = absurd (nothing.0 command asked)
  along_of words command files reply asked (inr own) =
      subst (λ (a : program.Command). Replies (program.reports_on_output a) (program.plan_of a) files reply) (one words own.0 command own.1 asked) own.2

  pub ends_as_told : (AreRelated : Reply → Reply → Type 0) (words : List (List ℕ)) (shelf : ShelfChange) (out err : SinkChange) (ended : Status)
      → IsCompleteUpTo program AreRelated words shelf out err ended → EndsAsTold words shelf out ended
  ends_as_told AreRelated words shelf out err ended complete command asked = by_told shelf.before.told complete
    where
      by_told : (told : Option Files)
          → IfSome told (λ files. (Rose shelf.before.faults shelf.after.faults → ⊥)
          → (ended ≡ status.Memory) ⊎ ((reply : Reply) × RepliesTo program words files reply × ((other : Reply) → RepliesTo program words files other → AreRelated reply other) × IsDelivered out err reply ended))
          → IfSome told (λ files. (Rose shelf.before.faults shelf.after.faults → ⊥) → (Rose out.faults_before out.faults_after → ⊥)
          → (ended ≡ status.Memory)
          ⊎ (EndsByFiles files (program.plan_of command) ended × ((other : Status) → EndsByFiles files (program.plan_of command) other → other ≡ ended)))
      by_told None gives = tt
      by_told (Some files) gives = λ no_fault whole. elim (gives no_fault) [
        | inl memory ↦ inl memory
        | inr gave ↦
            let plan = program.plan_of command in
            let along = along_of words command files gave.0 asked gave.1 in
            let found = ends_by (program.reports_on_output command) plan files gave.0 (observable_shelf files) refl along in
            let is = (given_whole out err gave.0 ended gave.3 whole).0 in
            let here : EndsByFiles files plan ended = subst (λ (t : Status). EndsByFiles files plan t) (sym is) found in
            inr (here, λ other there. ends_by_once files plan other ended (kept command) there here)
      ]

-- ---- the number of files that a run opened

-- The files of a plan, for all parse results.
abbrev pub HasFiles : List (List ℕ) → CommandPlan → Type 0
HasFiles [] (ends outcomes) = Unit {0}
HasFiles (name ∷ names) (reads format file next) = (name ≡ file) × ((said : format.Said) → HasFiles names (next said))
HasFiles _ plan = ⊥

-- The count of opened files after n more.
abbrev pub begun : ℕ → ℕ → ℕ
begun count zero = count
begun count (suc n) = more count (suc n)

-- The call opened the first of these files, if there is one, and at most as many as there are. If there is one file, it
-- opened exactly that one.
pub record BeganSome (shelf : ShelfChange) (names : List (List ℕ)) : Type 0 where
  pub count : ℕ
  pub some : min 1 (length names) ≤ count
  pub most : count ≤ length names
  pub begins : shelf.after.begins ≡ begun shelf.before.begins count

begun_more : (b n : ℕ) → begun (more b 1) n ≡ begun b (suc n)
begun_more b zero = refl
begun_more b (suc n) = twice b n (2 ^ 64 - 1)
  where
    twice : (b n most : ℕ) → min (min (b + 1) most + suc n) most ≡ min (b + suc (suc n)) most
    twice b n most = omega arith

began_along : (only : Type 0) (plan : CommandPlan) (names : List (List ℕ)) (before after : Shelf) (Here : FileFormat → List ℕ → Shelf → Type 0) (There : Outcomes → Shelf → Type 0)
    → ((format : FileFormat) (file : List ℕ) (at : Shelf) → Here format file at → after.begins ≡ more at.begins 1) → HasFiles names plan
    → HoldsAtStop only plan before Here (λ outcomes at. (after ≡ at) × There outcomes at) → BeganSome (between only before after) names
began_along only (reads format file next) (name ∷ names) before after Here There began has (inl here) =
    record { count = 1; some = omega arith; most = omega arith; begins = began format file before here }
began_along only (reads format file next) (name ∷ names) before after Here There began has (inr on) =
    let rest = began_along only (next on.said) names on.after after Here There began (has.1 on.said) on.next in
    record { count = suc rest.count; some = omega arith; most = omega arith; begins = rest.begins ∙ ap (λ (n : ℕ). begun n rest.count) on.took.began.begins ∙ begun_more before.begins rest.count }
began_along only (ends outcomes) [] before after Here There began has here = record { count = 0; some = omega arith; most = omega arith; begins = ap (λ (shelf : Shelf). shelf.begins) here.0 }
began_along only (reads format file next) [] before after Here There began has came = absurd has
began_along only (ends outcomes) (name ∷ names) before after Here There began has came = absurd has

-- For every point at which a run stopped, including an allocation failure.
pub began_some : (program : Program) (ended : Status) (words : List (List ℕ)) (shelf : ShelfChange) (out err : SinkChange) (cause : HasCause program ended words shelf out err)
    → (names : List (List ℕ)) → HasFiles names (program.plan_of cause.command) → BeganSome shelf names
began_some program ended words shelf out err cause names has =
    began_along shelf.only_failures (program.plan_of cause.command) names shelf.before shelf.after (λ format file at. HoldsAtFile ended err (since at shelf) format file)
    (λ outcomes at. HoldsAtOutcome ended (program.reports_on_output cause.command) out err outcomes)
    (λ format file at here. (began_at (since at shelf) format file here.0 here.1).begins) has cause.along
