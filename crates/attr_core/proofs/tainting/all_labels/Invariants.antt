use Rattle.std.proofs.Common.{◌≡◌, ◌≤◌, length, map, drop}
use Rattle.toml.specs.View.{view}
use Rattle.table_core.specs.inner.Listing.{grow}
use Rattle.attr_core.specs.inner.LabelWalk.{all_labels, and_label}
use Rattle.attr_core.proofs.tainting.all_labels.Given as goal

abbrev pub invariant-loop-value : goal.invariant-loop-value
invariant-loop-value l = record {
  few : length l.labels.items ≤ 64;
  grown : grow and_label (record { labels = l.labels.items; bits = l.bits }) (map view (drop l.value-index l.values)) ≡ all_labels l.fn.labels.items (map view l.values);
}
