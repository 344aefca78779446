use Rattle.edit_core.specs.inner.EditView.{change_view}
use Rattle.edit_core.proofs.WrittenLemmas.{array_after}
use Rattle.edit_core.proofs.in_place.edit_list.Goals as goal

pub returns-in-Array-clause-list : goal.returns-in-Array-clause-list
returns-in-Array-clause-list c = λ done.
    array_after (change_view c.args.change.now) c.args.list c.in-Array.elements c.edit_elements-is_done.new.elements c.in-Array.is (c.edit_elements-is_done.ensures.elements done)
