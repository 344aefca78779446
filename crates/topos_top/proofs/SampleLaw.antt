-- The sample reads no file, so its run consists only of its outcomes.
use Rattle.std.proofs.Common.{◌≡◌, inl, inr, ℕ, false, List, ap, subst, ◌∙◌}
use Rattle.sample_core.proofs.SamplePromisesLaws.{reports_sample}
use Rattle.topos_top.specs.Command.{Command, Sample, ParseAs, reports_on_output}
use Rattle.topos_top.specs.Commands.{plan_of, NamesNoFile}
use Rattle.run_core.specs.CommandPlan.{ReadsNothing}
use Rattle.run_core.specs.Outcomes.{Answers, stream_of}
use Rattle.topos_top.specs.Promises.{CutOff, EndsAsSample, DeliversReply, NoMemory, Written}
use Rattle.run_core.specs.Replies.{IsPossibleReply}
use Rattle.run_core.specs.Reply.{Reply, no_memory}
use Rattle.topos_top.specs.Sample.{sample_outcomes}
use Rattle.run_core.specs.Shelf.{ShelfChange}
use Rattle.run_core.specs.SinkChanges.{SinkChange, IsWrittenTo, IsDelivered}
use Rattle.run_core.specs.declared.status.Status.{Status}
use Rattle.run_core.specs.declared.status.Status.TheVariants as status
use Rattle.run_core.specs.declared.status.Stream.{Stream}
use Rattle.run_core.specs.declared.status.Stream.TheVariants.{Output}
use Rattle.topos_top.proofs.ParseLaws.{one_ask}
use Rattle.run_core.proofs.RunLaws.{ends_in_error}

pub sample_names_no_file : (words : List (List ℕ)) (n : ℕ) → ParseAs words (Sample n) → NamesNoFile words
sample_names_no_file words n asks command asked = subst (λ (a : Command). ReadsNothing (plan_of a)) (one_ask words (Sample n) command asks asked) tt

by_answer : (n : ℕ) (out err : SinkChange) (reply : Reply) (s : Status) → Answers false (sample_outcomes n) reply → IsDelivered out err reply s → EndsAsSample n out s
by_answer n out err reply s (stream, inr none) given = absurd none
by_answer n out err reply s (stream, inl end) given =
    let done = end.0 in
    let goes : reply.stream ≡ Output = stream ∙ ap (stream_of false) done in
    elim given [
      | inl whole ↦ Written (whole.0 ∙ done) reply.text end.2 (reports_sample n reply.text end.2) (subst (λ (x : Stream). IsWrittenTo x out err reply.text) goes whole.1).0
      | inr cut ↦ CutOff cut.0 reply.text end.2 cut.2.0 cut.2.1
    ]

by_memory : (n : ℕ) (out err : SinkChange) (reply : Reply) (s : Status) → reply ≡ no_memory → IsDelivered out err reply s → EndsAsSample n out s
by_memory n out err reply s lack given =
    let end = ends_in_error out err s reply status.Memory no_memory.text lack given in
    NoMemory end.0 end.1

by_asked : (n : ℕ) (shelf : ShelfChange) (out err : SinkChange) (reply : Reply) (s : Status) → IsPossibleReply false (plan_of (Sample n)) shelf reply → IsDelivered out err reply s → EndsAsSample n out s
by_asked n shelf out err reply s (same, inl lack) given = by_memory n out err reply s lack given
by_asked n shelf out err reply s (same, inr answers) given = by_answer n out err reply s answers given

pub sample_law : (words : List (List ℕ)) (shelf : ShelfChange) (out err : SinkChange) (s : Status) → DeliversReply words shelf out err s
    → (n : ℕ) → ParseAs words (Sample n) → EndsAsSample n out s
sample_law words shelf out err s gave n asks = elim gave.allowed [
  | inl nothing ↦ absurd (nothing.0 (Sample n) asks)
  | inr own ↦
      let same = one_ask words own.0 (Sample n) own.1 asks in
      by_asked n shelf out err gave.reply s (subst (λ (command : Command). IsPossibleReply (reports_on_output command) (plan_of command) shelf gave.reply) same own.2) gave.given
]
