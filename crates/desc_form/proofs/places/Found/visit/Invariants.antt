use Rattle.std.proofs.Common.{◌≡◌, ◌+◌, map, drop}
use Rattle.toml.specs.View.{view}
use Rattle.text_core.specs.FirstMatch.{numbered, numbered_from}
use Rattle.desc_form.specs.Places.{spot_in}
use Rattle.desc_form.specs.inner.Walking.{after_all, place_in}
use Rattle.desc_form.proofs.places.Found.visit.Given as goal

abbrev pub invariant-loop-index : goal.invariant-loop-index
invariant-loop-index l = record {
  same : after_all l.self (map (spot_in (place_in l.row)) (numbered_from (l.index + 1) (map view (drop l.index l.values)))) ≡ after_all l.fn.self (map (spot_in (place_in l.row)) (numbered (map view l.values)));
}
