use Rattle.reach_core.proofs.JoinRows.{HasJoinRows-forgotten}
use Rattle.reach_core.proofs.join_closure.JoinClosure.forget.Goals as goal

pub invariant_of-self : goal.invariant_of-self
invariant_of-self c = HasJoinRows-forgotten c.self.inside.steps c.forget.new.self c.self.inside.joined c.forget.ensures c.self.invariant
