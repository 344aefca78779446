use Rattle.edit_core.specs.inner.EditView.{change_view}
use Rattle.edit_core.proofs.SessionLemmas.{done_now}
use Rattle.edit_core.proofs.session.Session.apply_change.Goals as goal

pub returns-in-Some-clause-applied : goal.returns-in-Some-clause-applied
returns-in-Some-clause-applied c =
    done_now (change_view c.args.edit.now.change) (change_view c.change-change.result.now) c.args.self.now c.self.inside.table c.edit_in_place.new.table
    c.in-Some.summary c.self.view_is c.change-change.ensures c.in-Some.ensures.done
