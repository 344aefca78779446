-- The reasons to reject a list of events or of edits, and to refuse an edit (docs/TEXTS.md).
use Rattle.std.specs.Prelude.{ℕ, List, codes}
use Rattle.desc_form.specs.Refusals.{name}
use Rattle.edit_core.specs.declared.fault.EditWhy.{EditWhy}
use Rattle.edit_core.specs.declared.fault.EditWhy.TheVariants as edit
use Rattle.run_core.specs.TextFault.{fault_line}
use Rattle.text_core.specs.declared.faults.ListWhy.{ListWhy}
use Rattle.text_core.specs.declared.faults.ListWhy.TheVariants as list

-- The name of the reason to reject a list of events or of edits.
abbrev pub list_reason : ListWhy → List ℕ
list_reason list.TooLong = codes "TooLong"
list_reason list.BadLine = codes "BadLine"
list_reason list.BadValue = codes "BadValue"
list_reason list.TooMany = codes "TooMany"

-- The name of the reason to refuse an edit on the table that it changes.
abbrev pub edit_reason : EditWhy → List ℕ
edit_reason edit.NoPolicy = codes "NoPolicy"
edit_reason edit.Absent = codes "Absent"
edit_reason (edit.Refused why) = name why

-- The line that reports a refused edit, by the number of its line.
abbrev pub edit_fault_line : (line : ℕ) → EditWhy → List ℕ
edit_fault_line line why = fault_line (codes "edits") line (edit_reason why)
