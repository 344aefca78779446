use Rattle.std.proofs.lemmas.Result.{IfOk-weaker}
use Rattle.header_space.specs.inner.Splitting.{Splits}
use Rattle.header_space.specs.inner.Visiting.{Visits}
use Rattle.header_space.proofs.VisitLaws.{visits_by}
use Rattle.header_space.proofs.visit.visit_box.Goals as goal

pub returns-clause-visits : goal.returns-clause-visits
returns-clause-visits g c =
    let Knows = g.V.Visitor.knows c.visit.new.self in
    let whole = c.args.whole in
    let part = c.visit.new.within in
    let old = c.args.boxes.now.items in
    let new = c.split.new.boxes.items in
    IfOk-weaker c.split.result (λ _. Splits whole old new part) (λ _. Visits Knows whole old new)
    (λ _ splits. visits_by Knows whole part old new c.visit.ensures.part c.visit.ensures.knows splits) c.split.ensures
