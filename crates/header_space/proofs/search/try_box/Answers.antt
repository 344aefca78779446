use Rattle.header_space.proofs.SeekLaws.{tries_by}
use Rattle.header_space.proofs.search.try_box.Goals as goal

pub returns : goal.returns
returns g c =
    tries_by (g.Q.Question.holds_of c.args.question.now) c.args.whole c.ask-holds.new.within c.args.boxes.now.items c.split.new.boxes.items c.ask-holds.result
    c.ask-holds.ensures.part c.ask-holds.ensures.alike c.in_ok-split.ensures
