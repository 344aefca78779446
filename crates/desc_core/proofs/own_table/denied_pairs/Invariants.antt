use Rattle.std.proofs.Common.{◌≡◌, ◌++◌, map, drop}
use Rattle.desc_core.specs.Choices.{number_of_kind}
use Rattle.desc_form.specs.RawTemplate.{RawPair}
use Rattle.desc_form.specs.inner.RawView.{pair_view, template_view}
use Rattle.desc_core.proofs.own_table.denied_pairs.Given as goal

abbrev pub invariant-loop-pair : goal.invariant-loop-pair
invariant-loop-pair l =
    l.pairs.items ++ map (λ (p : RawPair). (number_of_kind (template_view l.template) p.sender, number_of_kind (template_view l.template) p.receiver)) (map pair_view (drop l.pair-index l.pair-items))
    ≡ map (λ (p : RawPair). (number_of_kind (template_view l.template) p.sender, number_of_kind (template_view l.template) p.receiver)) (map pair_view l.pair-items)
