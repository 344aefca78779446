use Rattle.std.proofs.Common.{◌≡◌, ◌++◌, map, drop, Bor, List, ℕ}
use Rattle.std.specs.Prelude.{filter_map}
use Rattle.toml.specs.Data.{as_str}
use Rattle.toml.specs.View.{view}
use Rattle.desc_form.proofs.raw.texts_among.Given as goal

abbrev pub invariant-loop-value : goal.invariant-loop-value
invariant-loop-value l = record {
  grown : map (λ (text : Bor (List ℕ)). text.now) l.texts.items ++ filter_map as_str (map view (drop l.value-index l.values)) ≡ filter_map as_str (map view l.values);
}
