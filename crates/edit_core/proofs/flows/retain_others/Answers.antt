use Rattle.std.proofs.Common.{map, rules, ap, not, ◌∙◌}
use Rattle.std.proofs.lemmas.Fn.{filter_same}
use Rattle.toml.specs.View.{view}
use Rattle.edit_core.specs.Edited.{is_between}
use Rattle.edit_core.proofs.WrittenLemmas.{filter_view}
use Rattle.edit_core.proofs.flows.retain_others.Goals as goal

pub returns : goal.returns
returns c =
    ap (map view) (filter_same _ (λ value. not (is_between c.args.from.now c.args.to.now (view value))) _ (λ x b f' k. search rules) _ _ c.retain.ensures.filtered)
    ∙ filter_view (λ d. not (is_between c.args.from.now c.args.to.now d)) c.args.values.now.items
