use Rattle.std.proofs.Common.{Option, subst, sym, ◌∙◌, true≢false, arith}
use Rattle.host_net.specs.declared.packet.Packet.{Packet}
use Rattle.header_space.specs.inner.Splitting.{Seeks}
use Rattle.header_space.proofs.SeekLaws.{popped_box, popped_volumes, some_volume, seeks_passed, seeks_tried}
use Rattle.header_space.proofs.search.search.Goals as goal

pub try_box-requires : goal.try_box-requires
try_box-requires g c =
    popped_box (g.Q.Question.holds_of c.args.question.now) c.args.whole c.args.found c.loop-next.boxes.items c.pop.new.self.items c.in-Some.next c.loop-next.first
    c.in-Some.ensures.items c.loop-next.invariant

pub loop-next-preserved-then-is_earlier : goal.loop-next-preserved-then-is_earlier
loop-next-preserved-then-is_earlier g c =
    subst (λ (found : Option Packet). Seeks (g.Q.Question.holds_of c.args.question.now) c.args.whole c.args.found c.try_box.new.boxes.items found) (sym c.found_then-first.ensures)
    (seeks_tried (g.Q.Question.holds_of c.args.question.now) c.args.whole c.args.found c.loop-next.boxes.items c.pop.new.self.items c.in-Some.next c.loop-next.first
    c.in-Some.ensures.items c.loop-next.invariant c.try_box.new.boxes.items c.in_ok-holds.holds (c.is_earlier.ensures.0 c.if-is_earlier.true) c.in_ok-holds.ensures)

pub loop-next-smaller : goal.loop-next-smaller
loop-next-smaller g c =
    let popped = popped_volumes (g.Q.Question.holds_of c.args.question.now) c.args.whole c.args.found c.loop-next.boxes.items c.pop.new.self.items c.in-Some.next c.loop-next.first
    c.in-Some.ensures.items c.loop-next.invariant in
    let some = some_volume c.in-Some.next (popped_box (g.Q.Question.holds_of c.args.question.now) c.args.whole c.args.found c.loop-next.boxes.items c.pop.new.self.items c.in-Some.next c.loop-next.first
    c.in-Some.ensures.items c.loop-next.invariant) in
    omega (arith, popped, some)

pub loop-next-preserved : goal.loop-next-preserved
loop-next-preserved g c =
    seeks_passed (g.Q.Question.holds_of c.args.question.now) c.args.whole c.args.found c.loop-next.boxes.items c.pop.new.self.items c.in-Some.next c.loop-next.first
    c.in-Some.ensures.items c.loop-next.invariant
    (λ early. true≢false (sym (c.is_earlier.ensures.1 early) ∙ c.if-is_earlier.false))
