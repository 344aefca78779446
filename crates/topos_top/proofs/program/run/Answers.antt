use Rattle.std.proofs.Common.{map, string_bytes}
use Rattle.topos_top.specs.Promises.{AgreeFor, DeliversReply}
use Rattle.run_core.specs.Shelf.{shelf_change}
use Rattle.run_core.specs.SinkChanges.{sink_change}
use Rattle.run_core.specs.inner.Views.{reply_view}
use Rattle.run_core.specs.declared.status.Status.TheVariants as status
use Rattle.topos_top.specs.Commands.{topos}
use Rattle.topos_top.proofs.CommandLaws.{kept}
use Rattle.topos_top.proofs.AgreeLaw.{alike_law}
use Rattle.topos_top.proofs.ParseLaws.{is_asked, may_give, one_ask}
use Rattle.topos_top.proofs.HeadlineLaw.{headline_law}
use Rattle.run_core.proofs.RunLaws.{usage_law, caused, each_cause, shelf_stays, no_fault, nothing_to_write, something_to_write}
use Rattle.topos_top.proofs.SampleLaw.{sample_law, sample_names_no_file}
use Rattle.run_core.proofs.CompleteLaws.{complete_law}
use Rattle.topos_top.proofs.program.run.Given as given
use Rattle.topos_top.proofs.program.run.Goals as goal

-- The properties of the reply and of its delivery, as one fact from which each clause follows.
gave : (g : given.Over) (c : goal.Joined-answer g) → DeliversReply (map string_bytes c.args.words.now)
    (shelf_change g.H.Shelf c.args.shelf.now c.answer_to-answer.new.shelf)
    (sink_change g.O.Sink c.args.out.now c.deliver.new.out) (sink_change g.E.Sink c.args.err.now c.deliver.new.err) c.deliver.result
gave g c = record {
  reply = reply_view c.answer_to-answer.result;
  allowed = may_give _ _ _ c.answer_to-answer.ensures.reply;
  given = c.deliver.ensures.given;
}

pub returns-clause-reply : goal.returns-clause-reply
returns-clause-reply g c = gave g c

pub returns-clause-usage : goal.returns-clause-usage
returns-clause-usage g c = usage_law topos kept _ _ _ _ _ (gave g c)

pub returns-clause-usage_opens_no_file : goal.returns-clause-usage_opens_no_file
returns-clause-usage_opens_no_file g c = λ is.
    c.answer_to-answer.ensures.opens_no_file (λ command read. absurd ((usage_law topos kept _ _ _ _ _ (gave g c)).0 is command (is_asked _ command read)))

pub returns-clause-opens_no_file : goal.returns-clause-opens_no_file
returns-clause-opens_no_file g c = λ none. c.answer_to-answer.ensures.opens_no_file (λ command read. none command (is_asked _ command read))

pub returns-clause-files_unchanged : goal.returns-clause-files_unchanged
returns-clause-files_unchanged g c = (shelf_stays topos kept _ _ _ _ _ (gave g c)).0

pub returns-clause-faults_monotone : goal.returns-clause-faults_monotone
returns-clause-faults_monotone g c = ((shelf_stays topos kept _ _ _ _ _ (gave g c)).1, c.deliver.ensures.out_faults_stay, c.deliver.ensures.err_faults_stay)

pub returns-clause-causes : goal.returns-clause-causes
returns-clause-causes g c = each_cause _ _ (caused topos kept _ _ _ _ _ (gave g c))

pub returns-clause-headline : goal.returns-clause-headline
returns-clause-headline g c = λ is.
    headline_law _ _ _ (sink_change g.E.Sink c.args.err.now c.deliver.new.err) (caused topos kept _ _ _ _ _ (gave g c) status.Done (λ e. cc e) is)

pub returns-clause-sample : goal.returns-clause-sample
returns-clause-sample g c = λ n asks. (
  c.answer_to-answer.ensures.opens_no_file (λ command read. sample_names_no_file _ n asks command (is_asked _ command read)),
  sample_law _ _ _ _ _ (gave g c) n asks,
)

pub returns-clause-output_unchanged : goal.returns-clause-output_unchanged
unfolding gave
returns-clause-output_unchanged g c = λ not_done not_cut not_reported.
    c.deliver.ensures.output_unchanged (nothing_to_write topos kept _ _ _ _ _ (gave g c) not_done not_cut not_reported)

pub returns-clause-stderr_unchanged : goal.returns-clause-stderr_unchanged
unfolding gave
returns-clause-stderr_unchanged g c = λ says.
    c.deliver.ensures.stderr_unchanged (no_fault c.deliver.result says) (something_to_write topos kept _ _ _ _ _ (gave g c) (one_ask (map string_bytes c.args.words.now)) says)

pub returns-clause-complete : goal.returns-clause-complete
returns-clause-complete g c = complete_law topos kept (AgreeFor (map string_bytes c.args.words.now)) (map string_bytes c.args.words.now)
    (λ files given other. alike_law (map string_bytes c.args.words.now) files given other) _ _ _ _ (gave g c)
