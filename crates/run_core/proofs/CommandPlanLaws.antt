-- Properties along a plan: one lemma for a file, one for the outcomes.
use Rattle.std.proofs.Common.{◌≡◌, ◌≤◌, ◌⊎◌, ap, inl, inr, ℕ, ◌+◌, ◌^◌, ◌-◌, min, arith, List, Option, None, Some, Bool, Ok, Err, refl, sym, subst, ◌∙◌}
use Rattle.std.specs.Prelude.{IfOk, IfSome, Result}
use Rattle.std.specs.FinMap.{get}
use Rattle.std.specs.declared.alloc.AllocError.{AllocError}
use Rattle.edge_io.specs.Counts.{more, Rose}
use Rattle.edge_io.specs.Observable.{Files, Lacks}
use Rattle.run_core.specs.CommandPlan.{CommandPlan, reads, ends, HoldsAtStop}
use Rattle.run_core.specs.Outcomes.{Outcomes, Answers, AnswersFirst}
use Rattle.run_core.specs.inner.Reads.{MayRead}
use Rattle.run_core.specs.Replies.{Replies, Stops, StopsRunAt, NoMemory, Stopped, IsPossibleReply, observable_shelf}
use Rattle.run_core.specs.Reply.{Reply, no_memory}
use Rattle.run_core.specs.Shelf.{Shelf, ShelfChange, ObservesFile, BeganOne, ConsumesBytes, taken_of}
use Rattle.run_core.specs.inner.OutcomesReplies.{outcomes_reply}
use Rattle.run_core.specs.inner.Views.{reply_view}
use Rattle.run_core.specs.declared.answer.Answer.{Answer}
use Rattle.run_core.specs.FileFormats.{FileFormat}
use Rattle.run_core.specs.declared.status.Status.{Status}
use Rattle.run_core.proofs.OutcomesLaws.{AgreeOr, AreApart, EachOutcome, IsOneOr, answers_alike, answers_first}
use Rattle.run_core.proofs.FormatLaws.{IsLawfulFormat, RefusesOnce}

-- ---- the steps of the code

-- A shelf between two moments.
abbrev pub between : Type 0 → (before after : Shelf) → ShelfChange
between only before after = record { before = before; after = after; only_failures = only }

-- After an accepted file the run continues.
pub went_on : {only : Type 0} (on : Bool) (format : FileFormat) (file : List ℕ) (next : format.Said → CommandPlan) (before mid after : Shelf) (said : format.Said) (given : Reply)
    → MayRead format file (between only before mid) (Ok said) → IsPossibleReply on (next said) (between only mid after) given
    → IsPossibleReply on (reads format file next) (between only before after) given
went_on on format file next before mid after said given read rest = inr (record {
  bytes = read.0;
  held = read.1.held;
  said = said;
  read = read.2;
  after = mid;
  took = read.1.took;
  next = rest;
})

-- After the last file memory for the outcome runs out, or the outcome has a reply.
outcomes_answer : (on : Bool) (outcomes : Outcomes) (made : Result Answer AllocError) (given : Reply) → IfOk made (λ answer. Answers on outcomes (reply_view answer))
    → given ≡ outcomes_reply made → (given ≡ no_memory) ⊎ Answers on outcomes given
outcomes_answer on outcomes (Ok answer) given answers is = inr (subst (λ (r : Reply). Answers on outcomes r) (sym is) answers)
outcomes_answer on outcomes (Err _) given answers is = inl is

pub went_to_outcomes : {only : Type 0} (on : Bool) (format : FileFormat) (file : List ℕ) (outcomes : format.Said → Outcomes) (before after : Shelf) (said : format.Said)
    (made : Result Answer AllocError) (given : Reply) → MayRead format file (between only before after) (Ok said)
    → IfOk made (λ answer. Answers on (outcomes said) (reply_view answer)) → given ≡ outcomes_reply made
    → IsPossibleReply on (reads format file (λ x. ends (outcomes x))) (between only before after) given
went_to_outcomes on format file outcomes before after said made given read answers is =
    went_on on format file (λ x. ends (outcomes x)) before after after said given read (refl, outcomes_answer on (outcomes said) made given answers is)

-- ---- the end of a plan

-- The outcomes of a plan have a property, for all parse results of its files, and their formats are lawful.
abbrev pub HoldsAtEnds : (Outcomes → Type 0) → CommandPlan → Type 0
HoldsAtEnds Holds (reads format file next) =
    IsLawfulFormat format × ((bytes : List ℕ) (said : format.Said) → format.Reads bytes said → HoldsAtEnds Holds (next said))
HoldsAtEnds Holds (ends outcomes) = Holds outcomes

pub holds_at_ends : (Holds Other : Outcomes → Type 0) → ((outcomes : Outcomes) → Holds outcomes → Other outcomes) → (plan : CommandPlan)
    → HoldsAtEnds Holds plan → HoldsAtEnds Other plan
holds_at_ends Holds Other implied (reads format file next) owed = (owed.0, λ bytes said read. holds_at_ends Holds Other implied (next said) (owed.1 bytes said read))
holds_at_ends Holds Other implied (ends outcomes) owed = implied outcomes owed

-- A consequence of every point at which a run stopped.
pub wherever : {C : Type 0} (Holds : Outcomes → Type 0) (only : Type 0) (plan : CommandPlan) (shelf : Shelf) (HoldsAtFile : FileFormat → List ℕ → Shelf → Type 0) (HoldsAtOutcome : Outcomes → Shelf → Type 0)
    → HoldsAtEnds Holds plan → ((format : FileFormat) (file : List ℕ) (at : Shelf) → IsLawfulFormat format → HoldsAtFile format file at → C)
    → ((outcomes : Outcomes) (at : Shelf) → Holds outcomes → HoldsAtOutcome outcomes at → C)
    → HoldsAtStop only plan shelf HoldsAtFile HoldsAtOutcome → C
wherever Holds only (reads format file next) shelf HoldsAtFile HoldsAtOutcome owed f j (inl here) = f format file shelf owed.0 here
wherever Holds only (reads format file next) shelf HoldsAtFile HoldsAtOutcome owed f j (inr on) =
    wherever Holds only (next on.said) on.after HoldsAtFile HoldsAtOutcome (owed.1 on.bytes on.said on.read) f j on.next
wherever Holds only (ends outcomes) shelf HoldsAtFile HoldsAtOutcome owed f j here = j outcomes shelf owed here

-- A run stopped at the same point, with a property that is implied there.
pub holds_at_stop : (Holds : Outcomes → Type 0) (only : Type 0) (plan : CommandPlan) (shelf : Shelf) (HoldsAtFile HoldsAtFile' : FileFormat → List ℕ → Shelf → Type 0) (HoldsAtOutcome HoldsAtOutcome' : Outcomes → Shelf → Type 0)
    → HoldsAtEnds Holds plan → ((format : FileFormat) (file : List ℕ) (at : Shelf) → IsLawfulFormat format → HoldsAtFile format file at → HoldsAtFile' format file at)
    → ((outcomes : Outcomes) (at : Shelf) → Holds outcomes → HoldsAtOutcome outcomes at → HoldsAtOutcome' outcomes at)
    → HoldsAtStop only plan shelf HoldsAtFile HoldsAtOutcome → HoldsAtStop only plan shelf HoldsAtFile' HoldsAtOutcome'
holds_at_stop Holds only (reads format file next) shelf HoldsAtFile HoldsAtFile' HoldsAtOutcome HoldsAtOutcome' owed f j (inl here) = inl (f format file shelf owed.0 here)
holds_at_stop Holds only (reads format file next) shelf HoldsAtFile HoldsAtFile' HoldsAtOutcome HoldsAtOutcome' owed f j (inr on) = inr (record {
  bytes = on.bytes;
  held = on.held;
  said = on.said;
  read = on.read;
  after = on.after;
  took = on.took;
  next = holds_at_stop Holds only (next on.said) on.after HoldsAtFile HoldsAtFile' HoldsAtOutcome HoldsAtOutcome' (owed.1 on.bytes on.said on.read) f j on.next;
})
holds_at_stop Holds only (ends outcomes) shelf HoldsAtFile HoldsAtFile' HoldsAtOutcome HoldsAtOutcome' owed f j here = j outcomes shelf owed here

-- ---- what never changes

-- A file that stopped the run was opened.
pub began_at : (seen : ShelfChange) (format : FileFormat) (file : List ℕ) (given : Reply) → StopsRunAt seen format file given → BeganOne seen.before seen.after
began_at seen format file given (NoMemory began is) = began
began_at seen format file given (Stopped saw last is) = last.began

-- The files are unchanged, and the count of errors did not decrease.
abbrev pub FilesStay : (before after : Shelf) → Type 0
FilesStay before after = (after.told ≡ before.told) × (before.faults ≤ after.faults)

pub unchanged : (before after : Shelf) → after ≡ before → FilesStay before after
unchanged before after same = subst (λ (shelf : Shelf). FilesStay before shelf) (sym same) (refl, omega arith)

pub files_stay : (only : Type 0) (on : Bool) (plan : CommandPlan) (before after : Shelf) (given : Reply) → IsPossibleReply on plan (between only before after) given → FilesStay before after
files_stay only on (reads format file next) before after given (inl stops) =
    let began = began_at (between only before after) format file given stops in
    (began.told, began.faults_monotone)
files_stay only on (reads format file next) before after given (inr go) =
    let rest = files_stay only on (next go.said) go.after after given go.next in
    (rest.0 ∙ go.took.began.told, omega (arith, go.took.began.faults_monotone, rest.1))
files_stay only on (ends outcomes) before after given here = unchanged before after here.0

-- ---- if the files are observable

-- A count that did not increase from an earlier moment did not increase from a later one.
not_since : (before mid after : ℕ) → before ≤ mid → (Rose before after → ⊥) → Rose mid after → ⊥
not_since before mid after stay none rose = none (later before mid after (2 ^ 64 - 1) stay rose)
  where
    later : (before mid after most : ℕ) → before ≤ mid → min (mid + 1) most ≤ after → min (before + 1) most ≤ after
    later before mid after most stay rose = omega (arith, stay, rose)

-- An observation without an error is the content of an observable shelf.
seen_is_told : (shelf : ShelfChange) (files : Files) → shelf.before.told ≡ Some files → (Rose shelf.before.faults shelf.after.faults → ⊥)
    → (file : List ℕ) (saw : Option (List ℕ)) → ObservesFile shelf file saw → get files file ≡ saw
seen_is_told shelf files told no_fault file None saw = elim saw [
  | inl fault ↦ absurd (no_fault fault)
  | inr lacks ↦ subst (λ (t : Option Files). Lacks t file) told lacks
]
seen_is_told shelf files told no_fault file (Some bytes) saw =
    subst (λ (t : Option Files). IfSome t (λ fs. get fs file ≡ Some bytes)) told saw

-- A shelf after a file was read without an error.
abbrev after_file : FileFormat → List ℕ → Shelf → Shelf
after_file format bytes shelf = record { told = shelf.told; faults = shelf.faults; begins = more shelf.begins 1; taken = taken_of format.most bytes }

took_it : {only : Type 0} (format : FileFormat) (bytes : List ℕ) (shelf : Shelf) → ConsumesBytes only format.most bytes shelf (after_file format bytes shelf)
took_it format bytes shelf = record { began = record { told = refl; faults_monotone = omega arith; begins = refl }; no_fault = λ only. refl; taken = refl }

-- The reply is an allocation failure, or the reply for the observable files.
pub given_as_told : (only : Type 0) (on : Bool) (plan : CommandPlan) (before after other : Shelf) (files : Files) (given : Reply) → HoldsAtEnds AreApart plan
    → before.told ≡ Some files → other.told ≡ Some files → (Rose before.faults after.faults → ⊥)
    → IsPossibleReply on plan (between only before after) given
    → (given ≡ no_memory) ⊎ HoldsAtStop (Unit {0}) plan other (λ format file at. Stops format file (get files file) given) (λ outcomes at. Answers on outcomes given × AnswersFirst outcomes given)
given_as_told only on (reads format file next) before after other files given owed told also no_fault (inl (NoMemory began is)) = inl is
given_as_told only on (reads format file next) before after other files given owed told also no_fault (inl (Stopped saw last stops)) =
    inr (inl (subst (λ (seen : Option (List ℕ)). Stops format file seen given) (sym (seen_is_told (between only before after) files told no_fault file saw last.held)) stops))
given_as_told only on (reads format file next) before after other files given owed told also no_fault (inr go) =
    elim (given_as_told only on (next go.said) go.after after (after_file format go.bytes other) files given
    (owed.1 go.bytes go.said go.read) (go.took.began.told ∙ told) also (not_since before.faults go.after.faults after.faults go.took.began.faults_monotone no_fault) go.next) [
      | inl memory ↦ inl memory
      | inr rest ↦ inr (inr (record {
        bytes = go.bytes;
        held = subst (λ (t : Option Files). IfSome t (λ fs. get fs file ≡ Some go.bytes)) (told ∙ sym also) go.held;
        said = go.said;
        read = go.read;
        after = after_file format go.bytes other;
        took = took_it format go.bytes other;
        next = rest;
      }))
    ]
given_as_told only on (ends outcomes) before after other files given owed told also no_fault (same, inl memory) = inl memory
given_as_told only on (ends outcomes) before after other files given owed told also no_fault (same, inr answers) =
    inr (answers, answers_first outcomes owed given answers.1)

-- Any two replies to a file that stops a run have the same status and the same stream, and if one line rejects bytes, they are equal. Such a
-- file is not accepted.
pub stops_alike : (format : FileFormat) (file : List ℕ) (saw : Option (List ℕ)) (r s : Reply) → Stops format file saw r → Stops format file saw s
    → (r.status ≡ s.status) × (r.stream ≡ s.stream)
stops_alike format file None r s p q = let same = p ∙ sym q in (ap (λ (x : Reply). x.status) same, ap (λ (x : Reply). x.stream) same)
stops_alike format file (Some bytes) r s p q =
    (ap (λ (x : Reply). x.status) p.replied ∙ sym (ap (λ (x : Reply). x.status) q.replied), ap (λ (x : Reply). x.stream) p.replied ∙ sym (ap (λ (x : Reply). x.stream) q.replied))

pub stops_once : (format : FileFormat) → RefusesOnce format → (file : List ℕ) (saw : Option (List ℕ)) (r s : Reply) → Stops format file saw r → Stops format file saw s → r ≡ s
stops_once format once file None r s p q = p ∙ sym q
stops_once format once file (Some bytes) r s p q =
    let same = once bytes p.line q.line p.refuses q.refuses in
    let a = p.replied in
    let b = q.replied in
    cc (same, a, b)

pub stops_or_read : {C : Type 0} (format : FileFormat) → IsLawfulFormat format → (file bytes : List ℕ) (saw : Option (List ℕ)) (r : Reply) (said : format.Said) → saw ≡ Some bytes → Stops format file saw r → format.Reads bytes said → C
stops_or_read format laws file bytes None r said is p q = cc is
stops_or_read format laws file bytes (Some other) r said is p q =
    let same : other ≡ bytes = cc is in
    absurd (laws.reads_or_refuses bytes p.line said q (subst (λ (bs : List ℕ). format.Refuses bs p.line) same p.refuses))

-- The reply is that of the observable files along a plan.
abbrev pub IsTold : Bool → CommandPlan → Shelf → Files → Reply → Type 0
IsTold on plan shelf files r =
    HoldsAtStop (Unit {0}) plan shelf (λ format file at. Stops format file (get files file) r) (λ outcomes at. Answers on outcomes r × AnswersFirst outcomes r)

-- Any two replies of the outcomes are related.
abbrev pub AreRelated : Bool → (Reply → Reply → Type 0) → Outcomes → Type 0
AreRelated on R outcomes = (r s : Reply) → Answers on outcomes r × AnswersFirst outcomes r → Answers on outcomes s × AnswersFirst outcomes s → R r s

-- The formats of the files of a plan have a property.
abbrev pub HoldsAtFormats : (FileFormat → Type 0) → CommandPlan → Type 0
HoldsAtFormats Holds (reads format file next) =
    Holds format × ((bytes : List ℕ) (said : format.Said) → format.Reads bytes said → HoldsAtFormats Holds (next said))
HoldsAtFormats Holds (ends outcomes) = Unit {0}

pub holds_at_formats : (Holds Other : FileFormat → Type 0) → ((format : FileFormat) → Holds format → Other format) → (plan : CommandPlan)
    → HoldsAtFormats Holds plan → HoldsAtFormats Other plan
holds_at_formats Holds Other implied (reads format file next) hold =
    (implied format hold.0, λ bytes said read. holds_at_formats Holds Other implied (next said) (hold.1 bytes said read))
holds_at_formats Holds Other implied (ends outcomes) hold = tt

-- Any two replies to a file that stops a run are related.
abbrev pub StopsRelated : (Reply → Reply → Type 0) → FileFormat → Type 0
StopsRelated R format = (file : List ℕ) (saw : Option (List ℕ)) (r s : Reply) → Stops format file saw r → Stops format file saw s → R r s

-- Any two replies of the observable files along a plan are related if those of its files and of its outcomes are.
pub told_related : (on : Bool) (R : Reply → Reply → Type 0) (plan : CommandPlan) (shelf other : Shelf) (files : Files) (r s : Reply)
    → HoldsAtFormats (StopsRelated R) plan → HoldsAtEnds (AreRelated on R) plan → shelf.told ≡ Some files → other.told ≡ Some files
    → IsTold on plan shelf files r → IsTold on plan other files s → R r s
told_related on R (reads format file next) shelf other files r s stops related told also (inl p) (inl q) = stops.0 file (get files file) r s p q
told_related on R (reads format file next) shelf other files r s stops related told also (inl p) (inr q) =
    stops_or_read format related.0 file q.bytes (get files file) r q.said (subst (λ (t : Option Files). IfSome t (λ fs. get fs file ≡ Some q.bytes)) also q.held) p q.read
told_related on R (reads format file next) shelf other files r s stops related told also (inr p) (inl q) =
    stops_or_read format related.0 file p.bytes (get files file) s p.said (subst (λ (t : Option Files). IfSome t (λ fs. get fs file ≡ Some p.bytes)) told p.held) q p.read
told_related on R (reads format file next) shelf other files r s stops related told also (inr p) (inr q) =
    let a : get files file ≡ Some p.bytes = subst (λ (t : Option Files). IfSome t (λ fs. get fs file ≡ Some p.bytes)) told p.held in
    let b : get files file ≡ Some q.bytes = subst (λ (t : Option Files). IfSome t (λ fs. get fs file ≡ Some q.bytes)) also q.held in
    let bytes : q.bytes ≡ p.bytes = cc (a, b) in
    let said : q.said ≡ p.said = related.0.reads_once p.bytes q.said p.said (subst (λ (bs : List ℕ). format.Reads bs q.said) bytes q.read) p.read in
    told_related on R (next p.said) p.after q.after files r s (stops.1 p.bytes p.said p.read) (related.1 p.bytes p.said p.read) (p.took.began.told ∙ told)
    (q.took.began.told ∙ also) p.next (subst (λ (x : format.Said). IsTold on (next x) q.after files s) said q.next)
told_related on R (ends outcomes) shelf other files r s stops related told also p q = related r s p q

-- One line rejects bytes, or the line is left open.
abbrev pub RefusesOnceOr : (Open : Status → Type 0) → FileFormat → Type 0
RefusesOnceOr Open format = RefusesOnce format ⊎ Open format.refused_as

pub stops_related : (Open : Status → Type 0) (format : FileFormat) → RefusesOnceOr Open format → StopsRelated (AgreeOr Open) format
stops_related Open format (inl once) file saw r s p q = inl (stops_once format once file saw s r q p)
stops_related Open format (inr loose) file None r s p q = inl (q ∙ sym p)
stops_related Open format (inr loose) file (Some bytes) r s p q =
    let same = stops_alike format file (Some bytes) s r q p in
    inr (subst Open (sym (ap (λ (x : Reply). x.status) p.replied)) loose, same.0, same.1)

-- The observable files have one reply along a plan whose outcomes have one text each, and whose files are rejected by one line, but for texts
-- that are left open.
pub told_alike : (on : Bool) (Open : Status → Type 0) (plan : CommandPlan) (files : Files) (r s : Reply) → HoldsAtFormats (RefusesOnceOr Open) plan
    → HoldsAtEnds (EachOutcome (IsOneOr Open)) plan → Replies on plan files r → Replies on plan files s → AgreeOr Open r s
told_alike on Open plan files r s once one p q =
    told_related on (AgreeOr Open) plan (observable_shelf files) (observable_shelf files) files r s (holds_at_formats (RefusesOnceOr Open) (StopsRelated (AgreeOr Open)) (stops_related Open) plan once)
    (holds_at_ends (EachOutcome (IsOneOr Open)) (AreRelated on (AgreeOr Open)) (λ (outcomes : Outcomes) each. answers_alike on Open outcomes each) plan one) refl refl p q
