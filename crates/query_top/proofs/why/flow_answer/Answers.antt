use Rattle.run_core.specs.inner.Views.{reply_view}
use Rattle.query_top.proofs.WhyLaws.{answers_flow, named_is_flow}
use Rattle.query_top.proofs.why.flow_answer.Goals as goal

pub flow_text-requires : goal.flow_text-requires
flow_text-requires c = named_is_flow c.args.description.now.hosts c.args.from.now c.args.to.now c.args.flow c.requires

pub returns : goal.returns
returns c =
    answers_flow c.args.description.now c.args.from.now c.args.to.now c.in_ok-text.text.items c.args.flow (reply_view c.done.result) c.requires c.in_ok-text.ensures c.done.ensures
