-- The exit status of each kind of end of a run (docs/GUIDE.md).
use Rattle.std.specs.Prelude.{ℕ}
use Rattle.run_core.specs.declared.status.Status.{Status}
use Rattle.run_core.specs.declared.status.Status.TheVariants.{Done, Usage, Violated, BadDescription, BadText, NotEmittable, ReadFault, WriteFault, Memory}

abbrev pub number_of : Status → ℕ
number_of Done = 0
number_of Usage = 1
number_of Violated = 2
number_of BadDescription = 3
number_of BadText = 4
number_of NotEmittable = 5
number_of ReadFault = 6
number_of WriteFault = 7
number_of Memory = 8
