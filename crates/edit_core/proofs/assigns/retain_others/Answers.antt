use Rattle.std.proofs.Common.{map, rules, ap, not, ◌∙◌}
use Rattle.std.proofs.lemmas.Fn.{filter_same}
use Rattle.toml.specs.View.{view}
use Rattle.edit_core.specs.Edited.{is_of_host}
use Rattle.edit_core.proofs.WrittenLemmas.{filter_view}
use Rattle.edit_core.proofs.assigns.retain_others.Goals as goal

pub returns : goal.returns
returns c =
    ap (map view) (filter_same _ (λ value. not (is_of_host c.args.host.now (view value))) _ (λ x b f' k. search rules) _ _ c.retain.ensures.filtered)
    ∙ filter_view (λ d. not (is_of_host c.args.host.now d)) c.args.assigns.now.items
