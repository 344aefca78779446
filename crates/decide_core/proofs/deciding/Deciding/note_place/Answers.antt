use Rattle.std.proofs.Common.{Some, subst}
use Rattle.decide_core.specs.inner.Classifying.{HasMarks}
use Rattle.decide_core.specs.inner.Deciding.{Deciding}
use Rattle.decide_core.proofs.PairSetLemmas.{notes_one, rule_marked}
use Rattle.decide_core.proofs.deciding.Deciding.note_place.Goals as goal

pub note-requires : goal.note-requires
note-requires c =
    rule_marked c.args.self.now c.args.place (subst (λ (x : Deciding). HasMarks x.rules x.marks) c.self.view_is c.self.invariant) c.requires

pub returns : goal.returns
returns c =
    notes_one c.args.self.now c.note.new.self (Some c.args.place) c.note.ensures
    (rule_marked c.args.self.now c.args.place (subst (λ (x : Deciding). HasMarks x.rules x.marks) c.self.view_is c.self.invariant) c.requires)
