-- The models of the code's assigns and results.
use Rattle.std.specs.Prelude.{◌≡◌, ℕ, Result, Ok, Err}
use Rattle.toml.specs.View.{table_view}
use Rattle.attr_core.specs.Assigns.{Given}
use Rattle.attr_core.specs.declared.assign.Assign.{Assign}
use Rattle.attr_core.specs.declared.fault.AttrFault.{AttrFault}
use Rattle.attr_core.specs.declared.fault.AttrFault.TheVariants.{BadAttribute, Memory}

-- The model of an assign.
abbrev pub given_of : Assign → Given
given_of assign = record { host = assign.host; table = table_view assign.table.now }

-- The result of a call agrees with the definition. Memory may run out instead at any time.
abbrev pub Reads : {A : Type 0} → Result A AttrFault → Result A ℕ → Type 0
Reads (Ok x) said = said ≡ Ok x
Reads (Err (BadAttribute assign)) said = said ≡ Err assign
Reads (Err Memory) said = Unit {0}
