use Rattle.table_core.specs.Tables.{elements_of}
use Rattle.table_core.proofs.TablesLaws.{elements_view}
use Rattle.table_core.proofs.values.elements.Goals as goal

pub returns : goal.returns
unfolding elements_of
returns c = rw (← c.in_ok-values.ensures, elements_view, c.as_slice.ensures.value)
