use Rattle.std.proofs.Common.{◌≡◌, ◌⊎◌, ◌+◌, List, arith, subst, sym}
use Rattle.host_net.specs.Host.{owner_of, rest_of}
use Rattle.header_space.specs.declared.address_range.AddressRange.{AddressRange}
use Rattle.nft_emit.specs.declared.cuts.Cut.{Cut}
use Rattle.nft_emit.specs.inner.Cuts.{AreOwned, IsCut, LieBetween}
use Rattle.nft_emit.proofs.CutLaws.{between_all, between_step, covered_step, last_all, next_small, owned_step}
use Rattle.nft_emit.proofs.cuts.cuts_of.Goals as goal

pub owner_until-held-requires : goal.owner_until-held-requires
owner_until-held-requires c = c.loop-cuts.invariant.small

pub returns-then-held : goal.returns-then-held
returns-then-held c =
    let hosts = c.args.hosts.now in
    let rest = c.rest-rest.result in
    let range : AddressRange = record { first = c.loop-cuts.first; last = c.owner_until-held.result.last } in
    let old = c.loop-cuts.cuts.items in
    let owner = c.owner_until-held.result.host in
    record {
      owned = subst (AreOwned hosts) (sym c.in_ok-push_owned.ensures)
          (owned_step hosts rest old owner range c.loop-cuts.invariant.owned c.owner_until-held.ensures.owned);
      covered = λ a low. subst (λ (xs : List Cut). (owner_of hosts a ≡ rest_of hosts) ⊎ IsCut xs a) (sym c.in_ok-push_owned.ensures)
          (covered_step hosts rest old owner range c.rest-rest.ensures c.owner_until-held.ensures.owned c.loop-cuts.invariant.covered a
          (last_all c.owner_until-held.result.last a c.if-held.true low));
      between = between_all _ c.owner_until-held.result.last c.if-held.true
          (subst (λ (xs : List Cut). LieBetween 0 xs (c.owner_until-held.result.last + 1)) (sym c.in_ok-push_owned.ensures)
          (between_step rest old owner range c.loop-cuts.invariant.between c.owner_until-held.ensures.first));
    }

pub loop-cuts-preserved : goal.loop-cuts-preserved
loop-cuts-preserved c =
    let hosts = c.args.hosts.now in
    let rest = c.rest-rest.result in
    let range : AddressRange = record { first = c.loop-cuts.first; last = c.owner_until-held.result.last } in
    let old = c.loop-cuts.cuts.items in
    let owner = c.owner_until-held.result.host in
    record {
      owned = subst (AreOwned hosts) (sym c.in_ok-push_owned.ensures)
          (owned_step hosts rest old owner range c.loop-cuts.invariant.owned c.owner_until-held.ensures.owned);
      small = next_small c.owner_until-held.result.last c.owner_until-held.ensures.last c.if-held.false;
      covered = λ a low. subst (λ (xs : List Cut). (owner_of hosts a ≡ rest_of hosts) ⊎ IsCut xs a) (sym c.in_ok-push_owned.ensures)
          (covered_step hosts rest old owner range c.rest-rest.ensures c.owner_until-held.ensures.owned c.loop-cuts.invariant.covered a (omega (arith, low)));
      between = subst (λ (xs : List Cut). LieBetween 0 xs (c.owner_until-held.result.last + 1)) (sym c.in_ok-push_owned.ensures)
          (between_step rest old owner range c.loop-cuts.invariant.between c.owner_until-held.ensures.first);
    }
