use Rattle.header_space.proofs.BoxLaws.{narrows_in, own_least}
use Rattle.decide_core.proofs.DecidingLemmas.{visit_grows, visit_known}
use Rattle.decide_core.proofs.deciding.DecidingVisitor.visit.Goals as goal

pub returns-clause-grows : goal.returns-clause-grows
returns-clause-grows c =
    let b = c.decide-place.new.within in
    let inside = own_least b c.decide-place.ensures.part.is_box in
    let before = narrows_in c.counts.new.within b b.least c.decide-place.ensures.part inside in
    visit_grows c.args.self.now b c.decide-place.new.self c.decide-place.result b.least inside c.decide-place.ensures.noted
    c.decide-place.ensures.there ((c.counts.ensures.counts b.least before).0 c.if-not-counts.false)
    (c.decide-place.ensures.decider b.least inside)

pub returns-clause-knows : goal.returns-clause-knows
returns-clause-knows c = λ p inside.
    visit_known c.args.self.now c.decide-place.new.self c.decide-place.result p c.decide-place.ensures.noted c.decide-place.ensures.there
    (c.decide-place.ensures.only p inside)
