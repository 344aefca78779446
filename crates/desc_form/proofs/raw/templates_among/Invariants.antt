use Rattle.std.proofs.Common.{◌≡◌, ◌++◌, map, drop}
use Rattle.std.specs.Prelude.{filter_map}
use Rattle.toml.specs.Data.{as_table}
use Rattle.toml.specs.View.{view}
use Rattle.desc_form.specs.inner.RawView.{template_view}
use Rattle.desc_form.specs.RawDescription.{raw_template}
use Rattle.desc_form.proofs.raw.templates_among.Given as goal

abbrev pub invariant-loop-value : goal.invariant-loop-value
invariant-loop-value l = record {
  grown : map template_view l.templates.items ++ map raw_template (filter_map as_table (map view (drop l.value-index l.values))) ≡ map raw_template (filter_map as_table (map view l.values));
}
