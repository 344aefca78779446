-- The result for an edit, compared with the definitions. Memory may run out instead at any time.
use Rattle.std.specs.Prelude.{◌≡◌, Result, Ok, Err}
use Rattle.desc_core.specs.declared.fault.DescFault.{DescFault}
use Rattle.desc_core.specs.declared.fault.DescFault.TheVariants as desc
use Rattle.edit_core.specs.declared.fault.ChangeFault.{ChangeFault}
use Rattle.edit_core.specs.declared.fault.ChangeFault.TheVariants.{Refused, Memory}
use Rattle.edit_core.specs.declared.fault.EditFault.{EditFault}
use Rattle.edit_core.specs.declared.fault.EditFault.TheVariants as edit
use Rattle.edit_core.specs.declared.fault.EditWhy.{EditWhy}
use Rattle.edit_core.specs.declared.fault.EditWhy.TheVariants as why

-- The error of a table that is no description.
abbrev pub edit_fault : DescFault → ChangeFault
edit_fault (desc.Refused refusal) = Refused (why.Refused refusal.why)
edit_fault desc.Memory = Memory

-- The result agrees with the definition.
abbrev pub Gives : {A : Type 0} → Result A EditWhy → Result A ChangeFault → Type 0
Gives said (Ok x) = said ≡ Ok x
Gives said (Err (Refused refused)) = said ≡ Err refused
Gives said (Err Memory) = Unit {0}

-- The cause of an error of `apply`, with the reason as one value.
abbrev pub cause_of : EditFault → ChangeFault
cause_of edit.NoPolicy = Refused why.NoPolicy
cause_of edit.Absent = Refused why.Absent
cause_of (edit.Refused refused) = Refused (why.Refused refused)
cause_of edit.Memory = Memory
