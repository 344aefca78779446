use Rattle.std.proofs.Common.{◌∙◌, ap}
use Rattle.nft_space.specs.inner.Checks.{are_elements}
use Rattle.nft_space.proofs.CheckLaws.{map_decided}
use Rattle.nft_space.proofs.check.is_rule.Goals as goal

pub returns-in-Map-clause-decides : goal.returns-in-Map-clause-decides
returns-in-Map-clause-decides c =
    map_decided c.args.below c.args.rule.now c.in-Map.map c.are_elements.result c.in-Map.is
    (c.are_elements.ensures ∙ ap (are_elements c.args.below) c.deref.ensures.value)
