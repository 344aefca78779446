-- Lists of flows without duplicates.
use Rattle.std.specs.Prelude.{List, [], ◌∷◌, IsFalse}
use Rattle.flow_set.specs.declared.flow.Flow.{Flow}
use Rattle.flow_set.specs.FlowSet.{has}

-- The list has no duplicates.
abbrev pub AreDifferent : List Flow → Type 0
AreDifferent [] = Unit {0}
AreDifferent (f ∷ fs) = IsFalse (has fs f) × AreDifferent fs
