use Rattle.reach_core.proofs.Shows.{shows_coming}
use Rattle.reach_core.proofs.reach_closure.ReachClosure.ancestors_of.Goals as goal

pub returns : goal.returns
returns c =
    shows_coming c.self.inside.steps c.args.self.now c.self.inside.reached c.self.inside.coming c.args.j c.row.result.now c.self.invariant c.self.view_is c.row.ensures c.requires
