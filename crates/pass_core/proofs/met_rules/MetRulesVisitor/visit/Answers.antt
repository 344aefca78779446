use Rattle.header_space.proofs.BoxLaws.{narrows_in, own_least}
use Rattle.pass_core.proofs.MeetingLemmas.{both_marked, both_more}
use Rattle.pass_core.proofs.met_rules.MetRulesVisitor.visit.Goals as goal

pub returns-clause-grows : goal.returns-clause-grows
returns-clause-grows c =
    let b = c.meet-2.new.within in
    let inside = own_least b c.meet-2.ensures.part.is_box in
    let before = narrows_in c.meet.new.within b b.least c.meet-2.ensures.part inside in
    both_more b c.args.self.now c.meet.new.self c.meet-2.new.self c.meet.ensures.chains c.meet-2.ensures.chains b.least inside
    (c.meet.ensures.marked b.least before) (c.meet-2.ensures.marked b.least inside)

pub returns-clause-knows : goal.returns-clause-knows
returns-clause-knows c = λ p inside.
    let b = c.meet-2.new.within in
    both_marked b c.args.self.now c.meet.new.self c.meet-2.new.self c.meet.ensures.chains c.meet-2.ensures.chains p
    (c.meet.ensures.marked p (narrows_in c.meet.new.within b p c.meet-2.ensures.part inside)) (c.meet-2.ensures.marked p inside)
