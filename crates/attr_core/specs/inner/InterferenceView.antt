-- The representation of the two kinds of `noninterference` in the code: whether the host is interfering.
use Rattle.std.specs.Prelude.{Bool, true, false}
use Rattle.tmpl_reach.specs.declared.non_interference.Interference.{Interference}
use Rattle.tmpl_reach.specs.declared.non_interference.Interference.TheVariants.{Interfering, Unrelated}

abbrev pub interference_of : Bool → Interference
interference_of true = Interfering
interference_of false = Unrelated
