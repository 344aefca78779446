use Rattle.std.proofs.Common.{◌-◌, List, true}
use Rattle.host_net.specs.declared.packet.CtState.TheVariants.{New}
use Rattle.header_space.specs.declared.address_range.AddressRange.{AddressRange}
use Rattle.header_space.specs.Owners.{GoesBetween}
use Rattle.ipt_rules.specs.Chain.{Chain}
use Rattle.ipt_rules.specs.Semantics.{PassesChains}
use Rattle.rules_set.specs.Pairs.{ArePairSets}
use Rattle.rules_space.specs.Verdicts.{GivesOne}
use Rattle.pass_core.specs.Services.{service_count}
use Rattle.pass_core.specs.inner.Numbers.{number_before}
use Rattle.pass_core.specs.inner.Sweeping.{IsSwept}
use Rattle.pass_core.proofs.pair_services.services_of_pair.Given as goal

abbrev pub invariant-loop-next : goal.invariant-loop-next
invariant-loop-next l =
    (chains : List Chain) (from to : List AddressRange) → ArePairSets chains New from to l.diagrams l.sets → GivesOne (PassesChains chains)
    → IsSwept (λ p. PassesChains chains New p true) (GoesBetween from to) l.ranges.items (number_before l.next)

abbrev pub decreases-loop-next : goal.decreases-loop-next
decreases-loop-next l = service_count - number_before l.next
