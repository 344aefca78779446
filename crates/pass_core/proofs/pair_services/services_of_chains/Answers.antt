use Rattle.std.proofs.Common.{List, true}
use Rattle.std.specs.Prelude.{IfSome}
use Rattle.std.proofs.lemmas.Result.{IfOk-weaker}
use Rattle.host_net.specs.declared.packet.CtState.TheVariants.{New}
use Rattle.header_space.specs.declared.address_range.AddressRange.{AddressRange}
use Rattle.header_space.specs.Owners.{GoesBetween}
use Rattle.ipt_rules.specs.Chain.{Chain}
use Rattle.ipt_rules.specs.Semantics.{PassesChains}
use Rattle.rules_set.specs.Pairs.{ArePairSets}
use Rattle.rules_space.specs.Verdicts.{GivesOne}
use Rattle.pass_core.specs.Passing.{ArePassing}
use Rattle.pass_core.proofs.NewServicesLaws.{some_weaker}
use Rattle.pass_core.proofs.pair_services.services_of_chains.Goals as goal

pub returns-in-Ok : goal.returns-in-Ok
returns-in-Ok c =
    let nodes = c.of.new.diagrams in
    let sets = c.in-Ok.sets in
    IfOk-weaker c.services_of_pair.result
    (λ found. IfSome found (λ ranges. (chains : List Chain) (from to : List AddressRange) → ArePairSets chains New from to nodes sets → GivesOne (PassesChains chains)
    → ArePassing (λ p. PassesChains chains New p true) (GoesBetween from to) ranges.items))
    (λ found. IfSome found (λ ranges. ArePassing (λ p. PassesChains c.args.chains.now New p true) (GoesBetween c.args.from.now c.args.to.now) ranges.items))
    (λ found is. some_weaker _ _ (λ ranges each. each c.args.chains.now c.args.from.now c.args.to.now c.in-Ok.ensures.sets c.requires.one) found is)
    c.services_of_pair.ensures.ranges
