use Rattle.std.proofs.Common.{arith, sym, ◌∙◌, ap, append-nil, ◌++◌}
use Rattle.std.proofs.lemmas.List.{flat_map_more}
use Rattle.flow_set.specs.Flow.{IsFlow}
use Rattle.flow_set.specs.laws.WalkLaws.{walk_next, walk_member}
use Rattle.report_core.specs.CheckReport.{offending_line}
use Rattle.report_core.proofs.check.push_offending.Goals as goal

pub loop-flow-init : goal.loop-flow-init
loop-flow-init c = record {
  walk = c.into_iter-flow-iterator.ensures.into_iter_gives ∙ c.iter-flow-items.ensures.flows;
  text = sym (append-nil c.args.text.now.items);
}

pub push_offending_line-requires-clause-from : goal.push_offending_line-requires-clause-from
push_offending_line-requires-clause-from c =
    let f = c.in-Some.flow in
    let is_flow : IsFlow c.args.flows.now.size f = c.iter-flow-items.ensures.set.flows f (walk_member c.loop-flow.yielded c.loop-flow.flow-iterator c.next.new.self c.args.flows.now.flows f c.loop-flow.invariant.walk c.in-Some.ensures.steps) in
    omega (arith, is_flow.0, c.requires)

pub push_offending_line-requires-clause-to : goal.push_offending_line-requires-clause-to
push_offending_line-requires-clause-to c =
    let f = c.in-Some.flow in
    let is_flow : IsFlow c.args.flows.now.size f = c.iter-flow-items.ensures.set.flows f (walk_member c.loop-flow.yielded c.loop-flow.flow-iterator c.next.new.self c.args.flows.now.flows f c.loop-flow.invariant.walk c.in-Some.ensures.steps) in
    omega (arith, is_flow.1, c.requires)

pub loop-flow-preserved : goal.loop-flow-preserved
loop-flow-preserved c =
    let f = c.in-Some.flow in
    let line = offending_line c.args.hosts.now in
    record {
      walk = walk_next c.loop-flow.yielded c.loop-flow.flow-iterator c.next.new.self c.args.flows.now.flows f c.loop-flow.invariant.walk c.in-Some.ensures.steps;
      text = c.in_ok-push_offending_line.ensures ∙ ap (λ text. text ++ line f) c.loop-flow.invariant.text ∙ flat_map_more line c.args.text.now.items c.loop-flow.yielded f;
    }
