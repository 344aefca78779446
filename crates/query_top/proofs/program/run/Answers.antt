use Rattle.std.proofs.Common.{map, string_bytes}
use Rattle.run_core.specs.Shelf.{shelf_change}
use Rattle.run_core.specs.SinkChanges.{sink_change}
use Rattle.run_core.specs.declared.status.Status.TheVariants as status
use Rattle.query_top.specs.Promises.{AgreeFor, DeliversReply}
use Rattle.run_core.specs.inner.Views.{reply_view}
use Rattle.query_top.proofs.AnsweredLaws.{answered_law, differences_law, rules_law}
use Rattle.query_top.proofs.ParseLaws.{may_give, not_read, one_ask}
use Rattle.run_core.proofs.CompleteLaws.{complete_law}
use Rattle.query_top.specs.Commands.{topos_query}
use Rattle.query_top.proofs.AgreeLaws.{alike_law}
use Rattle.query_top.proofs.CommandLaws.{kept}
use Rattle.run_core.proofs.RunLaws.{usage_law, caused, each_cause, shelf_stays, no_fault, nothing_to_write, something_to_write}
use Rattle.query_top.proofs.AnsweredLaws.{is_reported}
use Rattle.query_top.proofs.program.run.Given as given
use Rattle.query_top.proofs.program.run.Goals as goal

-- The one reply of the run, from which each clause follows.
gave : (g : given.Over) (c : goal.Joined-answer g) → DeliversReply (map string_bytes c.args.words.now)
    (shelf_change g.H.Shelf c.args.shelf.now c.answer_to-answer.new.shelf)
    (sink_change g.O.Sink c.args.out.now c.deliver.new.out) (sink_change g.E.Sink c.args.err.now c.deliver.new.err) c.deliver.result
gave g c = record {
  reply = reply_view c.answer_to-answer.result;
  allowed = may_give _ _ _ c.answer_to-answer.ensures.reply;
  given = c.deliver.ensures.given;
}

pub returns-clause-reply : goal.returns-clause-reply
returns-clause-reply g c = gave g c

pub returns-clause-usage : goal.returns-clause-usage
returns-clause-usage g c = usage_law topos_query kept _ _ _ _ _ (gave g c)

pub returns-clause-usage_opens_no_file : goal.returns-clause-usage_opens_no_file
returns-clause-usage_opens_no_file g c = λ is. c.answer_to-answer.ensures.opens_no_file (not_read _ ((usage_law topos_query kept _ _ _ _ _ (gave g c)).0 is))

pub returns-clause-files_unchanged : goal.returns-clause-files_unchanged
returns-clause-files_unchanged g c = (shelf_stays topos_query kept _ _ _ _ _ (gave g c)).0

pub returns-clause-faults_monotone : goal.returns-clause-faults_monotone
returns-clause-faults_monotone g c = ((shelf_stays topos_query kept _ _ _ _ _ (gave g c)).1, c.deliver.ensures.out_faults_stay, c.deliver.ensures.err_faults_stay)

pub returns-clause-causes : goal.returns-clause-causes
returns-clause-causes g c = each_cause _ _ (caused topos_query kept _ _ _ _ _ (gave g c))

pub returns-clause-answered : goal.returns-clause-answered
returns-clause-answered g c = λ is.
    answered_law _ _ _ (sink_change g.E.Sink c.args.err.now c.deliver.new.err) (caused topos_query kept _ _ _ _ _ (gave g c) status.Done (λ e. cc e) is)

pub returns-clause-differences : goal.returns-clause-differences
returns-clause-differences g c = λ is.
    differences_law _ _ _ (sink_change g.E.Sink c.args.err.now c.deliver.new.err) (caused topos_query kept _ _ _ _ _ (gave g c) status.Violated (λ e. cc e) is)

pub returns-clause-only_rules : goal.returns-clause-only_rules
returns-clause-only_rules g c = λ is.
    rules_law _ (shelf_change g.H.Shelf c.args.shelf.now c.answer_to-answer.new.shelf) (sink_change g.O.Sink c.args.out.now c.deliver.new.out)
    (sink_change g.E.Sink c.args.err.now c.deliver.new.err) (caused topos_query kept _ _ _ _ _ (gave g c) status.BadText (λ e. cc e) is)

pub returns-clause-output_unchanged : goal.returns-clause-output_unchanged
unfolding gave
returns-clause-output_unchanged g c = λ not_done not_violated not_cut.
    c.deliver.ensures.output_unchanged (nothing_to_write topos_query kept _ _ _ _ _ (gave g c) not_done not_cut (λ violated on. not_violated violated))

pub returns-clause-stderr_unchanged : goal.returns-clause-stderr_unchanged
unfolding gave
returns-clause-stderr_unchanged g c = λ answered.
    let reported = is_reported _ _ _ _ _ (gave g c) answered in
    c.deliver.ensures.stderr_unchanged (no_fault c.deliver.result reported)
    (something_to_write topos_query kept _ _ _ _ _ (gave g c) (one_ask (map string_bytes c.args.words.now)) reported)

pub returns-clause-complete : goal.returns-clause-complete
returns-clause-complete g c = complete_law topos_query kept (AgreeFor (map string_bytes c.args.words.now)) (map string_bytes c.args.words.now)
    (λ files given other. alike_law (map string_bytes c.args.words.now) files given other) _ _ _ _ (gave g c)
