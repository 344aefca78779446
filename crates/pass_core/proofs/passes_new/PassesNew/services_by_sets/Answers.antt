use Rattle.std.proofs.Common.{Option, subst}
use Rattle.std.specs.Prelude.{◌↔◌, IfSome}
use Rattle.std.proofs.lemmas.Result.{IfOk-weaker}
use Rattle.host_net.specs.declared.packet.Packet.{Packet}
use Rattle.header_space.specs.Boxes.{IsIn}
use Rattle.header_space.specs.Owners.{GoesBetween}
use Rattle.rules_space.specs.Rules.{AnyRules}
use Rattle.pass_core.specs.NewPackets.{LetsPass}
use Rattle.pass_core.specs.Passing.{ArePassing}
use Rattle.pass_core.proofs.NewServicesLaws.{some_weaker}
use Rattle.pass_core.proofs.PairLemmas.{passing_alike}
use Rattle.pass_core.proofs.passes_new.PassesNew.services_by_sets.Goals as goal

pub services_within-requires : goal.services_within-requires
services_within-requires c = λ p goes. c.box_between-within.ensures.inside p goes.packet (c.hull.ensures.covers p.src goes.src) (c.hull-2.ensures.covers p.dst goes.dst)

pub services_within-requires-in-Some : goal.services_within-requires-in-Some
services_within-requires-in-Some c = λ p goes. c.box_between-within.ensures.inside p goes.packet (c.hull.ensures.covers p.src goes.src) (c.hull-2.ensures.covers p.dst goes.dst)

pub returns-in-Some : goal.returns-in-Some
returns-in-Some c =
    let q = c.args.self.now in
    let t = c.in-Some.part in
    let from = c.args.from.now in
    let to = c.args.to.now in
    let b = c.box_between-within.result in
    let inside : (p : Packet) → GoesBetween from to p → IsIn b p =
    λ p goes. c.box_between-within.ensures.inside p goes.packet (c.hull.ensures.covers p.src goes.src) (c.hull-2.ensures.covers p.dst goes.dst) in
    let agrees : (p : Packet) → IsIn b p → (LetsPass t p ↔ LetsPass q p) =
    subst (λ (o : Option AnyRules). IfSome o (λ x. (p : Packet) → IsIn b p → (LetsPass x p ↔ LetsPass q p))) c.in-Some.is c.in_ok-restrict.ensures in
    IfOk-weaker c.services_within-in-Some.result (λ found. IfSome found (λ ranges. ArePassing (LetsPass t) (GoesBetween from to) ranges.items))
    (λ found. IfSome found (λ ranges. ArePassing (LetsPass q) (GoesBetween from to) ranges.items))
    (λ found is. some_weaker _ _ (λ ranges are. passing_alike (LetsPass t) (LetsPass q) (GoesBetween from to) (GoesBetween from to)
    (λ p. (λ goes. goes, λ goes. goes)) (λ p goes. agrees p (inside p goes)) ranges.items are) found is)
    c.services_within-in-Some.ensures
