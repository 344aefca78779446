use Rattle.std.proofs.Common.{ap, ◌∙◌}
use Rattle.std.specs.List.{flat_map}
use Rattle.host_net.specs.Site.{site_with}
use Rattle.flow_set.specs.laws.WalkLaws.{walk_end}
use Rattle.change_core.specs.inner.Listing.{weaker_of}
use Rattle.change_core.proofs.WeakerLaws.{weaker_where}
use Rattle.change_core.proofs.weaker.weaker_flows.Goals as goal

pub returns : goal.returns
returns c =
    let rows = c.in_ok-rows.rows.items in
    let old = site_with c.args.old.now c.args.old_services.now in
    let new = site_with c.args.new.now c.args.new_services.now in
    let denied = c.args.denied.now.flows in
    let free = c.args.free.now.flows in
    let set = c.iter-flow-items.ensures.set in
    let kept = c.loop-flow.invariant in
    weaker_where old denied new free rows c.loop-flow.list.items
    (record {
      shared = c.in_ok-rows.ensures;
      old_valid = c.is_empty.ensures.services;
      new_valid = c.is_empty-2.ensures.services;
      denied_apart = λ f there. (c.size.ensures.set.flows f there).2;
      free_apart = λ f there. (set.flows f there).2;
      ordered = set.ordered;
    })
    (kept.listed
    ∙ ap (flat_map (weaker_of new.services old.services denied rows)) (walk_end c.loop-flow.yielded c.loop-flow.flow-iterator free kept.walk c.in-None.ensures.steps.0))
