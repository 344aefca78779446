use Rattle.std.proofs.Common.{◌≡◌, ◌++◌, map, drop}
use Rattle.std.specs.Prelude.{filter_map}
use Rattle.toml.specs.View.{view}
use Rattle.desc_form.specs.RawTemplate.{raw_pair}
use Rattle.desc_form.specs.inner.RawView.{pair_view}
use Rattle.desc_form.proofs.raw.pairs_among.Given as goal

abbrev pub invariant-loop-value : goal.invariant-loop-value
invariant-loop-value l = record {
  grown : map pair_view l.pairs.items ++ filter_map raw_pair (map view (drop l.value-index l.values)) ≡ filter_map raw_pair (map view l.values);
}
