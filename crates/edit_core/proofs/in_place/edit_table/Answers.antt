use Rattle.std.proofs.Common.{codes, refl, ◌∙◌}
use Rattle.edit_core.specs.inner.EditView.{change_view}
use Rattle.edit_core.proofs.WrittenLemmas.{edited_in, found_here, written_same}
use Rattle.edit_core.proofs.in_place.edit_table.Goals as goal

pub returns-in-Some-clause-table : goal.returns-in-Some-clause-table
returns-in-Some-clause-table c = λ done.
    let w = c.edit_list-flows.result.0 in
    let found = found_here (codes "flow") c.args.table.now c.get_mut.result c.in-Some.slot c.in-Some.is c.get_mut.ensures.value in
    edited_in (codes "flow") c.args.table.now (c.get_mut.follows.lender w) c.in-Some.slot.now w (change_view c.args.change.now) refl c.get_mut.ensures.ordered found
    (c.get_mut.follows.holds w).0 (rw c.take.ensures at (c.edit_list-flows.ensures.list done))

pub returns-in-Some-clause-untouched : goal.returns-in-Some-clause-untouched
returns-in-Some-clause-untouched c = λ same.
    let w = c.edit_list-flows.result.0 in
    let found = found_here (codes "flow") c.args.table.now c.get_mut.result c.in-Some.slot c.in-Some.is c.get_mut.ensures.value in
    written_same (codes "flow") c.args.table.now (c.get_mut.follows.lender w) c.in-Some.slot.now w found (c.get_mut.follows.holds w).0
    (c.edit_list-flows.ensures.untouched same ∙ c.take.ensures)
