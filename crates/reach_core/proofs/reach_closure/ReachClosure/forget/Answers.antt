use Rattle.reach_core.proofs.ReachRows.{HasReachRows-forgotten}
use Rattle.reach_core.proofs.reach_closure.ReachClosure.forget.Goals as goal

pub invariant_of-self : goal.invariant_of-self
invariant_of-self c =
    HasReachRows-forgotten c.self.inside.steps c.forget.new.self c.self.inside.reached c.self.inside.coming c.forget.ensures c.self.invariant
