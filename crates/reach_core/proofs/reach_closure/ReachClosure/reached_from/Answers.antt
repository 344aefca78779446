use Rattle.reach_core.proofs.Shows.{shows_reached}
use Rattle.reach_core.proofs.reach_closure.ReachClosure.reached_from.Goals as goal

pub returns : goal.returns
returns c =
    shows_reached c.self.inside.steps c.args.self.now c.self.inside.reached c.self.inside.coming c.args.i c.row.result.now c.self.invariant c.self.view_is c.row.ensures c.requires
