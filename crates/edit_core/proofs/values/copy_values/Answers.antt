use Rattle.std.proofs.Common.{◌++◌, ◌∷◌, [], ap, map, refl, ◌∙◌}
use Rattle.std.proofs.lemmas.List.{map_push}
use Rattle.toml.specs.Data.{Data}
use Rattle.toml.specs.View.{view}
use Rattle.edit_core.proofs.CopyLemmas.{made_all, made_next}
use Rattle.edit_core.proofs.values.copy_values.Goals as goal

pub loop-value-preserved : goal.loop-value-preserved
loop-value-preserved c =
    made_next (λ ds. ds) (view c.value-item.result ∷ []) (map view c.loop-value.copies.items) (map view c.push.new.self.items) c.args.values.now
    c.loop-value.value-index c.value-item.result (map view c.args.values.now) c.loop-value-test.true c.value-item.is refl c.loop-value.invariant
    (ap (map view) c.in_ok-push.ensures.items ∙ map_push view c.loop-value.copies.items c.in_ok-copy_value.field-0
    ∙ ap (λ (d : Data). map view c.loop-value.copies.items ++ d ∷ []) c.in_ok-copy_value.ensures)

pub returns : goal.returns
returns c = made_all (λ ds. ds) (map view c.loop-value.copies.items) c.args.values.now c.loop-value.value-index (map view c.args.values.now) c.loop-value-test.false refl c.loop-value.invariant
