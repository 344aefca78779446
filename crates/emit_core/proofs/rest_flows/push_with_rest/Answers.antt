use Rattle.std.proofs.Common.{◌∙◌, sym}
use Rattle.emit_core.proofs.OwnerLaws.{rest_below}
use Rattle.emit_core.proofs.rest_flows.push_with_rest.Goals as goal

pub push_on_side-requires : goal.push_on_side-requires
push_on_side-requires c = rest_below c.args.policy.now.site.hosts c.in-Some.host (sym c.requires ∙ c.in-Some.is)

pub push_on_side-requires-in-Some : goal.push_on_side-requires-in-Some
push_on_side-requires-in-Some c = rest_below c.args.policy.now.site.hosts c.in-Some.host (sym c.requires ∙ c.in-Some.is)
