use Rattle.std.proofs.Common.{map, ◌∙◌, ap}
use Rattle.header_space.specs.Owners.{GoesBetween}
use Rattle.pass_core.specs.inner.Numbers.{number}
use Rattle.pass_core.proofs.AreaLemmas.{are_areas, goes_between, in_areas, some_asked}
use Rattle.pass_core.proofs.SweepLemmas.{next_number, swept_all, swept_on}
use Rattle.pass_core.proofs.passing.services_between.Goals as goal

pub ask_areas-requires : goal.ask_areas-requires
ask_areas-requires g c =
    are_areas c.args.from.now c.args.to.now c.deref.result.now (c.deref.ensures.value ∙ c.in_ok-areas.ensures) c.requires.from c.requires.to

pub survey_areas-requires-clause-some : goal.survey_areas-requires-clause-some
survey_areas-requires-clause-some g c =
    some_asked (λ a. a.area) c.args.from.now c.args.to.now c.deref-in-Some.result.now
    (ap (map (λ a. a.area)) c.deref-in-Some.ensures.value ∙ c.in_ok-asked.ensures.areas ∙ c.deref.ensures.value ∙ c.in_ok-areas.ensures) c.requires.from c.requires.to

pub loop-next-preserved : goal.loop-next-preserved
loop-next-preserved g c =
    let Holds = g.Q.Question.holds_of c.args.question.now in
    let from = c.args.from.now in
    let to = c.args.to.now in
    let areas = map (λ a. a.area) c.deref-in-Some.result.now in
    let same = ap (map (λ a. a.area)) c.deref-in-Some.ensures.value ∙ c.in_ok-asked.ensures.areas ∙ c.deref.ensures.value ∙ c.in_ok-areas.ensures in
    let found = c.in_ok-found.found in
    let before = rw c.in-Some.is at c.loop-next.invariant in
    let after = swept_on Holds (GoesBetween from to) areas (number c.in-Some.first) found c.in_ok-found.ensures
    (λ p is there. goes_between from to areas p same is there) (λ p goes. goes.packet) (λ p goes. in_areas from to areas p same goes)
    c.next-next.ensures.small c.loop-next.ranges.items c.append.new.ranges.items before c.in_ok-append.ensures in
    rw (next_number c.next-next.result (number found.last) c.next-next.ensures.next c.next-next.ensures.last) after

pub returns : goal.returns
returns g c =
    let Holds = g.Q.Question.holds_of c.args.question.now in
    let Between = GoesBetween c.args.from.now c.args.to.now in
    swept_all Holds Between c.loop-next.ranges.items (rw c.in_default.is at c.loop-next.invariant)
