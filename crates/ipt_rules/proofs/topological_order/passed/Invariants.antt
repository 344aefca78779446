use Rattle.std.proofs.Common.{◌≡◌, ◌≤◌, ◌<◌, ◌-◌, ℕ, length, Some, None}
use Rattle.std.specs.Prelude.{slice_get}
use Rattle.ipt_rules.specs.inner.Ranks.{place_of}
use Rattle.ipt_rules.proofs.topological_order.passed.Given as goal

abbrev pub decreases-loop-at : goal.decreases-loop-at
decreases-loop-at l = length l.row - l.at

abbrev pub invariant-loop-at : goal.invariant-loop-at
invariant-loop-at l = record {
  least : l.from ≤ l.at;
  within : l.at ≤ length l.row;
  passed : (i d : ℕ) → l.from ≤ i → i < l.at → slice_get l.row i ≡ Some d → place_of l.places d ≡ None → ⊥;
}
