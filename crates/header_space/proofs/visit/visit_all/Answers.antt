use Rattle.header_space.proofs.VisitLaws.{fewer_left, taken_box, taken_packets, under_way_then}
use Rattle.header_space.proofs.visit.visit_all.Goals as goal

pub visit_box-requires : goal.visit_box-requires
visit_box-requires g c =
    taken_box (g.V.Visitor.knows c.loop-next.visitor) c.args.whole c.loop-next.boxes.items c.pop.new.self.items c.in-Some.next
    c.in-Some.ensures.items c.loop-next.invariant.under_way

pub loop-next-preserved : goal.loop-next-preserved
loop-next-preserved g c =
    let Knows = g.V.Visitor.knows c.loop-next.visitor in
    let Then = g.V.Visitor.knows c.visit_box.new.visitor in
    let whole = c.args.whole in
    let only = taken_packets Knows whole c.loop-next.boxes.items c.pop.new.self.items c.in-Some.next c.in-Some.ensures.items c.loop-next.invariant.under_way in
    record {
      grows = g.met.V.Visitor.grows_by_both whole c.args.visitor.now c.loop-next.visitor c.visit_box.new.visitor c.loop-next.invariant.grows
          (g.met.V.Visitor.grows_by_more whole c.in-Some.next c.loop-next.visitor c.visit_box.new.visitor only c.visit_box.ensures.grows);
      under_way = under_way_then Knows whole c.loop-next.boxes.items c.pop.new.self.items c.in-Some.next c.in-Some.ensures.items c.loop-next.invariant.under_way
          Then c.visit_box.new.boxes.items
          (λ p known. g.met.V.Visitor.keeps c.in-Some.next c.loop-next.visitor c.visit_box.new.visitor p c.visit_box.ensures.grows known)
          c.in_ok-visit_box.ensures.visits;
    }

pub loop-next-smaller : goal.loop-next-smaller
loop-next-smaller g c =
    fewer_left (g.V.Visitor.knows c.loop-next.visitor) c.args.whole c.loop-next.boxes.items c.pop.new.self.items c.in-Some.next
    c.in-Some.ensures.items c.loop-next.invariant.under_way (g.V.Visitor.knows c.visit_box.new.visitor) c.visit_box.new.boxes.items c.in_ok-visit_box.ensures.visits

pub returns-in_err-visit_box-clause-grows : goal.returns-in_err-visit_box-clause-grows
returns-in_err-visit_box-clause-grows g c =
    let whole = c.args.whole in
    let only = taken_packets (g.V.Visitor.knows c.loop-next.visitor) whole c.loop-next.boxes.items c.pop.new.self.items c.in-Some.next
    c.in-Some.ensures.items c.loop-next.invariant.under_way in
    g.met.V.Visitor.grows_by_both whole c.args.visitor.now c.loop-next.visitor c.visit_box.new.visitor c.loop-next.invariant.grows
    (g.met.V.Visitor.grows_by_more whole c.in-Some.next c.loop-next.visitor c.visit_box.new.visitor only c.visit_box.ensures.grows)
