use Rattle.reach_core.proofs.Shows.{shows_joined}
use Rattle.reach_core.proofs.join_closure.JoinClosure.joined_with.Goals as goal

pub returns : goal.returns
returns c =
    shows_joined c.self.inside.steps c.args.self.now c.self.inside.joined c.args.i c.row.result.now c.self.invariant c.self.view_is c.row.ensures c.requires
