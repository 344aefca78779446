use Rattle.std.proofs.Common.{◌≡◌, ◌+◌, map, drop}
use Rattle.toml.specs.View.{view}
use Rattle.desc_form.specs.inner.Walking.{after_invariants}
use Rattle.desc_form.proofs.places.Found.go_through_invariants.Given as goal

abbrev pub invariant-loop-index : goal.invariant-loop-index
invariant-loop-index l = record {
  same : after_invariants l.self (l.index + 1) (map view (drop l.index l.values)) ≡ after_invariants l.fn.self 1 (map view l.values);
}
