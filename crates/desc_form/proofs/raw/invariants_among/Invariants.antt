use Rattle.std.proofs.Common.{◌≡◌, ◌++◌, map, drop}
use Rattle.std.specs.Prelude.{filter_map}
use Rattle.toml.specs.Data.{as_table}
use Rattle.toml.specs.View.{view}
use Rattle.desc_form.specs.inner.RawView.{invariant_view}
use Rattle.desc_form.specs.RawDescription.{raw_invariant}
use Rattle.desc_form.proofs.raw.invariants_among.Given as goal

abbrev pub invariant-loop-value : goal.invariant-loop-value
invariant-loop-value l = record {
  grown : map invariant_view l.invariants.items ++ map raw_invariant (filter_map as_table (map view (drop l.value-index l.values))) ≡ map raw_invariant (filter_map as_table (map view l.values));
}
