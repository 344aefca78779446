use Rattle.std.proofs.Common.{◌∙◌, ap, rules, tests}
use Rattle.std.proofs.lemmas.Iterator.Consumers.{YieldsList-end}
use Rattle.std.proofs.lemmas.Iterator.Splits.{YieldsList-from_slice_split}
use Rattle.std.specs.Slice.Iter.{split_rest, split_done, split_callee}
use Rattle.tmpl_domains.proofs.domain.cut.Goals as goal

pub returns : goal.returns
returns c =
    let split = c.split-segment-items.ensures in
    let same = c.into_iter-segment-iterator.ensures.into_iter_gives in
    let made =
    YieldsList-from_slice_split _ _ c.args.path.now (ap split_rest same ∙ split.rest) (ap split_done same ∙ split.done)
    (ap split_callee same ∙ split.closure) (λ x r q k. search (rules, tests)) in
    c.loop-segment.invariant
    ∙ (YieldsList-end made c.loop-segment.yielded _ c.loop-segment.yielded_by _ _ c.in-None.is c.next.ensures.steps).0
