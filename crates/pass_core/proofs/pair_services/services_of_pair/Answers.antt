use Rattle.std.proofs.Common.{true, refl}
use Rattle.host_net.specs.declared.packet.CtState.TheVariants.{New}
use Rattle.header_space.specs.Owners.{GoesBetween}
use Rattle.ipt_rules.specs.Semantics.{PassesChains}
use Rattle.pass_core.specs.inner.Areas.{areas_between}
use Rattle.pass_core.specs.inner.Numbers.{number}
use Rattle.pass_core.proofs.AreaLemmas.{goes_between, in_areas}
use Rattle.pass_core.proofs.SweepLemmas.{next_number, swept_all, swept_on}
use Rattle.pass_core.proofs.pair_services.services_of_pair.Goals as goal

pub loop-next-preserved : goal.loop-next-preserved
loop-next-preserved c = λ chains from to are one.
    let areas = areas_between from to in
    let found = c.in-Some-survey_pair.found in
    let before = rw c.in-Some.is at c.loop-next.invariant chains from to are one in
    let after = swept_on (λ p. PassesChains chains New p true) (GoesBetween from to) areas (number c.in-Some.first) found (c.in-Some-survey_pair.ensures.survey chains from to are one)
    (λ p is there. goes_between from to areas p refl is there) (λ p goes. goes.packet) (λ p goes. in_areas from to areas p refl goes)
    c.next-next.ensures.small c.loop-next.ranges.items c.append.new.ranges.items before c.in_ok-append.ensures in
    rw (next_number c.next-next.result (number found.last) c.next-next.ensures.next c.next-next.ensures.last) after

pub returns-clause-ranges : goal.returns-clause-ranges
returns-clause-ranges c = λ chains from to are one.
    swept_all (λ p. PassesChains chains New p true) (GoesBetween from to) c.loop-next.ranges.items (rw c.in_default.is at c.loop-next.invariant chains from to are one)
