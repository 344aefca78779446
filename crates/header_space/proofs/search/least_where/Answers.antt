use Rattle.std.proofs.Common.{None}
use Rattle.std.proofs.lemmas.Result.{IfOk-weaker}
use Rattle.header_space.specs.Searching.{HoldsIn, Improves, IsLeastWhere}
use Rattle.header_space.proofs.CutLaws.{improves_done}
use Rattle.header_space.proofs.search.least_where.Goals as goal

pub returns : goal.returns
returns g c =
    let Holds = g.Q.Question.holds_of c.args.question.now in
    IfOk-weaker c.least_before.result (Improves (HoldsIn Holds c.args.whole) None) (IsLeastWhere Holds c.args.whole)
    (improves_done Holds c.args.whole) c.least_before.ensures
