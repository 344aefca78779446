use Rattle.std.proofs.Common.{◌∷◌, [], ◌++◌, cond, map, sym, ap, ◌∙◌}
use Rattle.toml.specs.Data.{Data}
use Rattle.toml.specs.View.{view}
use Rattle.std.proofs.lemmas.List.{map_push}
use Rattle.edit_core.proofs.in_place.add.Goals as goal

pub returns-clause-elements : goal.returns-clause-elements
returns-clause-elements c = λ done.
    let items = c.args.elements.now.items in
    let listed = c.in-Ok.listed in
    ap (map view) (c.push.ensures.items ∙ ap (λ b. cond b (items ++ listed ∷ []) items) (sym c.is_ok.ensures.value ∙ done))
    ∙ map_push view items listed ∙ ap (λ (d : Data). map view items ++ d ∷ []) c.in-Ok.ensures
