use Rattle.std.proofs.Common.{◌≡◌, ◌++◌, map, drop}
use Rattle.std.specs.Prelude.{filter_map}
use Rattle.toml.specs.View.{view}
use Rattle.desc_form.specs.RawFlow.{raw_flow}
use Rattle.desc_form.specs.inner.RawView.{flow_view}
use Rattle.desc_form.proofs.raw.flows_among.Given as goal

abbrev pub invariant-loop-value : goal.invariant-loop-value
invariant-loop-value l = record {
  grown : map flow_view l.flows.items ++ filter_map raw_flow (map view (drop l.value-index l.values)) ≡ filter_map raw_flow (map view l.values);
}
