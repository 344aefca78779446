-- The state of the iteration over the assigns of `tainting`, as the code represents it.
use Rattle.std.specs.Prelude.{ℕ, List}
use Rattle.tmpl_levels.specs.declared.tainting.Labels.{Labels}

-- The labels so far, and the labels of each host.
pub record Tainted : Type 0 where
  pub labels : List (List ℕ)
  pub hosts : List Labels
