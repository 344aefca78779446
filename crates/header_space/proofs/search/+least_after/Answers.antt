use Rattle.std.proofs.Common.{subst}
use Rattle.std.proofs.lemmas.Result.{IfOk-weaker}
use Rattle.header_space.specs.declared.packet_box.PacketBox.{PacketBox}
use Rattle.header_space.specs.Searching.{HoldsIn, Improves}
use Rattle.header_space.proofs.CutLaws.{improves_parts}
use Rattle.header_space.proofs.search.+least_after.Goals as goal

pub returns : goal.returns
returns g t c =
    let Holds = g.Q.Question.holds_of c.args.question.now in
    let whole = c.args.whole in
    let cut = c.in-Some-cut.cut in
    IfOk-weaker c.least_after-3.result (Improves (HoldsIn Holds c.upper.result) c.in_ok-first.first) (Improves (HoldsIn Holds whole) c.args.found)
    (λ new is. improves_parts Holds whole cut c.args.found c.in_ok-first.first new c.in-Some-cut.ensures
    (subst (λ (b : PacketBox). Improves (HoldsIn Holds b) c.args.found c.in_ok-first.first) c.lower.ensures.value c.in_ok-first.ensures)
    (subst (λ (b : PacketBox). Improves (HoldsIn Holds b) c.in_ok-first.first new) c.upper.ensures.value is)) c.least_after-3.ensures
