use Rattle.edit_core.proofs.EditFaultLaws.{edit_lines_tell_one, edit_lines_have_form}
use Rattle.edit_core.proofs.text.read_edits.Goals as goal

pub read_list-requires-clause-one : goal.read_list-requires-clause-one
read_list-requires-clause-one c = edit_lines_tell_one

pub read_list-requires-clause-formed : goal.read_list-requires-clause-formed
read_list-requires-clause-formed c = edit_lines_have_form
