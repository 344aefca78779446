use Rattle.std.proofs.Common.{◌≡◌, ◌<◌, ◌≤◌, ◌+◌, ◌∙◌, List, [], None, ap, length, take, get_or, sym, subst}
use Rattle.std.proofs.lemmas.List.{map_push, take_all}
use Rattle.audit_core.specs.declared.sources.Source.{Source}
use Rattle.audit_core.specs.inner.Pairs.{DiffersSo, HoldsBetween, HoldsOf, IsFoundBetween, IsSource, ranges_in}
use Rattle.header_space.proofs.CutLaws.{improves_nowhere}
use Rattle.audit_core.proofs.BetweenLaws.{sources_more_found}
use Rattle.rules_space.proofs.ListLaws.{take_at}
use Rattle.audit_core.proofs.sources.Sender.find.Goals as goal

pub loop-source-init : goal.loop-source-init
loop-source-init c = λ sides each.
    improves_nowhere (HoldsBetween (DiffersSo sides c.args.direction) [] c.args.to.now) None (λ p holds. holds.0.src)

pub loop-source-preserved : goal.loop-source-preserved
loop-source-preserved c = λ sides each.
    let items = c.args.self.now.sources.items in
    let i = c.loop-source.source-index in
    let row = c.source-item.result in
    let low = subst (λ (l : List Source). i < length l) c.deref-source-items.ensures.value c.loop-source-test.true in
    let here = subst (λ (l : List Source). row ≡ get_or l i row) c.deref-source-items.ensures.value c.source-item.is in
    sources_more_found (DiffersSo sides c.args.direction) (HoldsOf row.ends c.args.direction) (ranges_in (take i items)) c.args.to.now row.range
    (ranges_in (take (i + 1) items)) None c.loop-source.found _ ((subst (IsSource sides) (sym here) (each i row low)).same c.args.direction)
    (ap ranges_in (take_at items i row low here) ∙ map_push (λ (s : Source). s.range) (take i items) row)
    (c.loop-source.invariant sides each) c.in_ok-found.ensures

pub returns : goal.returns
returns c = λ sides each.
    let items = c.args.self.now.sources.items in
    let i = c.loop-source.source-index in
    subst (λ (l : List Source). IsFoundBetween (DiffersSo sides c.args.direction) (ranges_in l) c.args.to.now c.loop-source.found)
    (take_all i items (subst (λ (l : List Source). length l ≤ i) c.deref-source-items.ensures.value c.loop-source-test.false)) (c.loop-source.invariant sides each)
