use Rattle.pass_core.proofs.PairLemmas.{found_in}
use Rattle.pass_core.proofs.pairs.passes_in.Goals as goal

pub returns : goal.returns
returns g c =
    found_in (g.Q.Question.holds_of c.args.question.now) c.args.area c.box_between.result c.in_ok-found.found c.is_some.result c.is_some.ensures
    c.box_between.ensures.inside c.box_between.ensures.packets c.in_ok-found.ensures
