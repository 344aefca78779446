use Rattle.std.proofs.Common.{◌∙◌, List, arith, subst, sym}
use Rattle.std.specs.List.{All}
use Rattle.header_space.specs.declared.address_range.AddressRange.{AddressRange}
use Rattle.header_space.specs.Owners.{LiesInOne, IsRangeOf}
use Rattle.header_space.proofs.OwnersLaws.{last_all, more_covered, more_ranges, next_small}
use Rattle.header_space.proofs.owners.ranges_of.Goals as goal

pub owner_until-held-requires : goal.owner_until-held-requires
owner_until-held-requires c = c.loop-ranges.invariant.small

pub returns-then-held : goal.returns-then-held
returns-then-held c =
    let range : AddressRange = record { first = c.loop-ranges.first; last = c.owner_until-held.result.last } in
    let old = c.loop-ranges.ranges.items in
    record {
      owned = subst (All (IsRangeOf c.args.hosts.now c.args.owner)) (sym c.in_ok-push_if.ensures)
          (more_ranges c.args.hosts.now c.args.owner old c.is_same.result range c.loop-ranges.invariant.owned
          (λ yes'. record {
            some = c.owner_until-held.ensures.first;
            owned = λ a lies. c.owner_until-held.ensures.owned a lies.0 lies.1 ∙ c.is_same.ensures.0 yes';
          }));
      covered = λ a low of. subst (λ (l : List AddressRange). LiesInOne l a) (sym c.in_ok-push_if.ensures)
          (more_covered c.args.hosts.now c.args.owner c.owner_until-held.result.host old c.is_same.result range c.is_same.ensures.1
          c.owner_until-held.ensures.owned c.loop-ranges.invariant.covered a (last_all c.owner_until-held.result.last a c.if-held.true low) of);
    }

pub loop-ranges-preserved : goal.loop-ranges-preserved
loop-ranges-preserved c =
    let range : AddressRange = record { first = c.loop-ranges.first; last = c.owner_until-held.result.last } in
    let old = c.loop-ranges.ranges.items in
    record {
      owned = subst (All (IsRangeOf c.args.hosts.now c.args.owner)) (sym c.in_ok-push_if.ensures)
          (more_ranges c.args.hosts.now c.args.owner old c.is_same.result range c.loop-ranges.invariant.owned
          (λ yes'. record {
            some = c.owner_until-held.ensures.first;
            owned = λ a lies. c.owner_until-held.ensures.owned a lies.0 lies.1 ∙ c.is_same.ensures.0 yes';
          }));
      small = next_small c.owner_until-held.result.last c.owner_until-held.ensures.last c.if-held.false;
      covered = λ a low of. subst (λ (l : List AddressRange). LiesInOne l a) (sym c.in_ok-push_if.ensures)
          (more_covered c.args.hosts.now c.args.owner c.owner_until-held.result.host old c.is_same.result range c.is_same.ensures.1
          c.owner_until-held.ensures.owned c.loop-ranges.invariant.covered a (omega (arith, low)) of);
    }
