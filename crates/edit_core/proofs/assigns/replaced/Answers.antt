use Rattle.std.proofs.Common.{◌++◌, ◌∷◌, [], ap, map, refl, ◌∙◌}
use Rattle.std.proofs.lemmas.List.{map_push}
use Rattle.std.specs.Prelude.{if◌then◌else◌}
use Rattle.toml.specs.Data.{Data, table}
use Rattle.toml.specs.View.{table_view, view}
use Rattle.edit_core.proofs.CopyLemmas.{made_all, made_next}
use Rattle.edit_core.specs.Edited.{is_of_host}
use Rattle.edit_core.proofs.assigns.replaced.Goals as goal

pub loop-value-preserved : goal.loop-value-preserved
loop-value-preserved c =
    let put = λ (d : Data). if is_of_host c.args.host.now d then table (table_view c.args.assign.now) else d in
    made_next (map put) (put (view c.value-item.result) ∷ []) (map view c.loop-value.values.items) (map view c.push.new.self.items)
    c.args.assigns.now c.loop-value.value-index c.value-item.result (map put (map view c.args.assigns.now)) c.loop-value-test.true c.value-item.is refl
    c.loop-value.invariant
    (ap (map view) c.in_ok-push.ensures.items ∙ map_push view c.loop-value.values.items c.in_ok-replacement.field-0
    ∙ ap (λ (d : Data). map view c.loop-value.values.items ++ d ∷ []) c.in_ok-replacement.ensures)

pub returns : goal.returns
returns c =
    let put = λ (d : Data). if is_of_host c.args.host.now d then table (table_view c.args.assign.now) else d in
    made_all (map put) (map view c.loop-value.values.items) c.args.assigns.now c.loop-value.value-index (map put (map view c.args.assigns.now)) c.loop-value-test.false
    refl c.loop-value.invariant
