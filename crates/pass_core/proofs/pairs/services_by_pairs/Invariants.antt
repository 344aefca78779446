use Rattle.std.proofs.Common.{take}
use Rattle.pass_core.specs.Pairs.{AreListedFor, AreListedFrom}
use Rattle.pass_core.proofs.pairs.services_by_pairs.Given as goal

abbrev pub invariant-loop-from : goal.invariant-loop-from
invariant-loop-from g l =
    AreListedFor (λ from. AreListedFrom (g.Q.Question.holds_of l.question) l.owned from) (take l.from-index l.owned) l.list.items
