use Rattle.header_space.proofs.OwnersLaws.{next_small}
use Rattle.change_core.proofs.NamingLaws.{ranges_all, ranges_step}
use Rattle.change_core.proofs.named.ranges_of.Goals as goal

pub returns-then-held : goal.returns-then-held
returns-then-held c =
    ranges_all c.args.new.now c.args.old.now c.args.owner _ c.named_until-held.result.last c.if-held.true
    (ranges_step c.args.new.now c.args.old.now c.args.owner c.named_until-held.result.owner c.loop-ranges.ranges.items _ c.is.result
    (record { first = c.loop-ranges.first; last = c.named_until-held.result.last }) c.loop-ranges.invariant.upto
    c.named_until-held.ensures.first c.named_until-held.ensures.owned c.is.ensures.0 c.is.ensures.1 c.in_ok-push_if.ensures)

pub loop-ranges-preserved : goal.loop-ranges-preserved
loop-ranges-preserved c = record {
  small = next_small c.named_until-held.result.last c.named_until-held.ensures.last c.if-held.false;
  upto =
      ranges_step c.args.new.now c.args.old.now c.args.owner c.named_until-held.result.owner c.loop-ranges.ranges.items _ c.is.result
      (record { first = c.loop-ranges.first; last = c.named_until-held.result.last }) c.loop-ranges.invariant.upto
      c.named_until-held.ensures.first c.named_until-held.ensures.owned c.is.ensures.0 c.is.ensures.1 c.in_ok-push_if.ensures;
}
