use Rattle.std.proofs.Common.{◌++◌, refl, ◌∙◌, ap}
use Rattle.flow_set.specs.laws.WalkLaws.{walk_next, walk_member}
use Rattle.json_core.specs.Json.{comma, flow_json}
use Rattle.json_core.proofs.ArrayLaws.{not_nothing, put_next, put_none}
use Rattle.json_core.proofs.names.push_each_flow.Goals as goal

pub loop-flow-init : goal.loop-flow-init
loop-flow-init c = record {
  walk = c.into_iter-flow-iterator.ensures.into_iter_gives ∙ c.iter-flow-items.ensures.flows;
  first = refl;
  text = put_none (flow_json c.args.hosts.now) c.args.text.now.items;
}

pub push_flow-requires : goal.push_flow-requires
push_flow-requires c =
    c.requires.flows c.in-Some.flow
    (walk_member c.loop-flow.yielded c.loop-flow.flow-iterator c.next.new.self c.args.flows.now.flows c.in-Some.flow c.loop-flow.invariant.walk c.in-Some.ensures.steps)

pub loop-flow-preserved : goal.loop-flow-preserved
loop-flow-preserved c =
    let flow = c.in-Some.flow in
    record {
      walk = walk_next c.loop-flow.yielded c.loop-flow.flow-iterator c.next.new.self c.args.flows.now.flows flow c.loop-flow.invariant.walk c.in-Some.ensures.steps;
      first = not_nothing c.loop-flow.yielded flow;
      text =
          put_next (flow_json c.args.hosts.now) c.loop-flow.yielded flow c.args.text.now.items c.loop-flow.text.items c.push_comma.new.text.items c.push_flow.new.text.items
          c.loop-flow.invariant.text
          (c.in_ok-push_comma.ensures ∙ ap (λ b. c.loop-flow.text.items ++ comma b) c.loop-flow.invariant.first)
          c.in_ok-push_flow.ensures;
    }
