use Rattle.std.proofs.Common.{◌+◌, ◌∷◌, [], List, take, get_or, subst}
use Rattle.std.proofs.lemmas.List.{take_all, take_more}
use Rattle.header_space.specs.declared.address_range.AddressRange.{AddressRange}
use Rattle.header_space.specs.Searching.{Improves}
use Rattle.header_space.proofs.CutLaws.{improves_nowhere}
use Rattle.audit_core.specs.inner.Pairs.{HoldsBetween, HoldsOf}
use Rattle.audit_core.proofs.BetweenLaws.{destinations_more}
use Rattle.audit_core.proofs.sources.Source.find.Goals as goal

pub loop-range-init : goal.loop-range-init
loop-range-init c = improves_nowhere (HoldsBetween (HoldsOf c.args.self.now.ends c.args.direction) (c.args.self.now.range ∷ []) []) c.args.found (λ p holds. holds.0.dst)

pub loop-range-preserved : goal.loop-range-preserved
loop-range-preserved c =
    let i = c.loop-range.range-index in
    destinations_more (HoldsOf c.args.self.now.ends c.args.direction) (HoldsOf c.by_ref.result c.args.direction) c.args.self.now.range
    (get_or c.args.to.now i _) (take i c.args.to.now) (take (i + 1) c.args.to.now) c.box_between.result c.args.found c.loop-range.first _
    c.box_between.ensures.inside c.box_between.ensures.packets (c.by_ref.ensures c.args.direction)
    (take_more c.args.to.now i _ c.loop-range-test.true) c.loop-range.invariant c.in_ok-first.ensures

pub returns : goal.returns
returns c =
    subst (λ (l : List AddressRange). Improves (HoldsBetween (HoldsOf c.args.self.now.ends c.args.direction) (c.args.self.now.range ∷ []) l) c.args.found c.loop-range.first)
    (take_all c.loop-range.range-index c.args.to.now c.loop-range-test.false) c.loop-range.invariant
