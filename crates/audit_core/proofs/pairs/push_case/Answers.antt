use Rattle.std.proofs.Common.{◌∷◌, [], List, Option, Some, subst}
use Rattle.host_net.specs.declared.packet.Packet.{Packet}
use Rattle.audit_core.specs.declared.difference.Direction.{Direction}
use Rattle.header_space.specs.declared.address_range.AddressRange.{AddressRange}
use Rattle.audit_core.specs.inner.Pairs.{DiffersSo, IsFoundBetween, ranges_in}
use Rattle.audit_core.specs.Pairs.{case_of}
use Rattle.audit_core.proofs.PairLaws.{added_none, listed_one}
use Rattle.audit_core.proofs.SourceLaws.{none_of, one_of}
use Rattle.audit_core.proofs.pairs.push_case.Goals as goal

pub returns-in-None : goal.returns-in-None
returns-in-None c = λ sides sender owned.
    let direction : Direction = record { kind = c.args.kind; forwards = c.args.forwards } in
    added_none sides (case_of c.args.from.now.owner c.args.to.now.owner c.args.kind c.args.forwards ∷ []) c.args.list.now.items
    (listed_one sides (case_of c.args.from.now.owner c.args.to.now.owner c.args.kind c.args.forwards) []
    (none_of sides c.args.from.now c.args.to.now sender owned direction
    (subst (λ (found : Option Packet). IsFoundBetween (DiffersSo sides (Some direction)) (ranges_in c.args.from.now.sources.items) c.args.to.now.ranges.items found)
    c.in-None.is
    (subst (λ (l : List AddressRange). IsFoundBetween (DiffersSo sides (Some direction)) (ranges_in c.args.from.now.sources.items) l c.in_ok-find.field-0)
    c.deref.ensures.value (c.in_ok-find.ensures sides sender.each)))))

pub returns-in_ok-push-in-Some : goal.returns-in_ok-push-in-Some
returns-in_ok-push-in-Some c = λ sides sender owned.
    let direction : Direction = record { kind = c.args.kind; forwards = c.args.forwards } in (
      _,
      c.in_ok-push-in-Some.ensures.items,
      listed_one sides (case_of c.args.from.now.owner c.args.to.now.owner c.args.kind c.args.forwards) _
          (one_of sides c.args.from.now c.args.to.now sender owned direction c.in-Some.packet
          (subst (λ (found : Option Packet). IsFoundBetween (DiffersSo sides (Some direction)) (ranges_in c.args.from.now.sources.items) c.args.to.now.ranges.items found)
          c.in-Some.is
          (subst (λ (l : List AddressRange). IsFoundBetween (DiffersSo sides (Some direction)) (ranges_in c.args.from.now.sources.items) l c.in_ok-find.field-0)
          c.deref.ensures.value (c.in_ok-find.ensures sides sender.each))) _
          (λ i. record { from = c.args.from.now.owner; to = c.args.to.now.owner; trace = c.of.ensures.value i })),
    )
