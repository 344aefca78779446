use Rattle.std.proofs.Common.{◌<◌, ◌≤◌, length, arith, refl, sym, subst}
use Rattle.std.specs.Prelude.{All}
use Rattle.std.proofs.lemmas.Bool.{both_ways, false≢true}
use Rattle.std.proofs.lemmas.List.{take_all}
use Rattle.std.proofs.lemmas.List.Elements.{All-more}
use Rattle.flow_set.specs.FlowSet.{with_flow}
use Rattle.permit_core.specs.inner.Tried.{CanTake}
use Rattle.permit_core.proofs.TriedLaws.{AllStep-asked, CanTake-again, holds_again}
use Rattle.permit_core.proofs.chosen.all_hold_with.Goals as goal

pub holds_with-requires : goal.holds_with-requires
holds_with-requires g c =
    let inv = g.I.Invariant in
    let now = c.loop-i.trials.items in
    let room : c.loop-i.i < length now = omega (arith, c.loop-i-test.true, c.len-i-end.ensures, c.loop-i.invariant.same.counted) in
    subst (CanTake inv.size_of inv.holds_on g.I.Stepwise.fits g.I.Tried.Trial.tried c.args.f) (sym c.index_mut.ensures.value)
    (CanTake-again inv.size_of inv.holds_on g.I.Stepwise.fits g.I.Tried.Trial.tried c.args.f c.args.trials.now.items now
    c.loop-i.invariant.same c.requires c.loop-i.i c.index_mut.result.now room)

pub returns-then-not-holds_with-clause-answer : goal.returns-then-not-holds_with-clause-answer
returns-then-not-holds_with-clause-answer g c =
    let old = c.args.trials.now.items in
    let below : c.loop-i.i < length old = omega (arith, c.loop-i-test.true, c.len-i-end.ensures) in
    let again =
    holds_again g.I.Invariant.holds_on g.I.Stepwise.fits g.I.Tried.Trial.tried c.args.f old c.loop-i.trials.items c.loop-i.i c.index_mut.result.now
    c.loop-i.invariant.same below c.index_mut.ensures.value in (
      λ impossible. absurd (false≢true impossible),
      λ all. absurd (both_ways _ c.if-not-holds_with.true (c.holds_with.ensures.answer.1 (again.1 (all c.loop-i.i c.index_mut.result.now below)))),
    )

pub returns-then-not-holds_with-clause-flows : goal.returns-then-not-holds_with-clause-flows
returns-then-not-holds_with-clause-flows g c =
    let now = c.loop-i.trials.items in
    let room : c.loop-i.i < length now = omega (arith, c.loop-i-test.true, c.len-i-end.ensures, c.loop-i.invariant.same.counted) in
    AllStep-asked g.I.Stepwise.fits g.I.Tried.Trial.tried c.args.trials.now.items now c.loop-i.i c.index_mut.result.now c.holds_with.new.self
    c.loop-i.invariant.same room c.index_mut.ensures.value c.holds_with.ensures.invariant c.holds_with.ensures.fits c.holds_with.ensures.flows

pub loop-i-preserved : goal.loop-i-preserved
loop-i-preserved g c =
    let inv = g.I.Invariant in
    let tried = g.I.Tried.Trial.tried in
    let old = c.args.trials.now.items in
    let now = c.loop-i.trials.items in
    let i = c.loop-i.i in
    let t = c.index_mut.result.now in
    let same = c.loop-i.invariant.same in
    let below : i < length old = omega (arith, c.loop-i-test.true, c.len-i-end.ensures) in
    let room : i < length now = omega (arith, below, same.counted) in
    record {
      same =
          AllStep-asked g.I.Stepwise.fits tried old now i t c.holds_with.new.self same room c.index_mut.ensures.value
          c.holds_with.ensures.invariant c.holds_with.ensures.fits c.holds_with.ensures.flows;
      hold =
          All-more (λ u. inv.holds_on u.invariant (with_flow (tried u.trial).flows c.args.f)) old i t below c.loop-i.invariant.hold
          ((holds_again inv.holds_on g.I.Stepwise.fits tried c.args.f old now i t same below c.index_mut.ensures.value).0 (c.holds_with.ensures.answer.0 c.if-not-holds_with.false));
    }

pub returns-clause-answer : goal.returns-clause-answer
returns-clause-answer g c =
    let old = c.args.trials.now.items in
    let whole : length old ≤ c.loop-i.i = omega (arith, c.loop-i-test.false, c.len-i-end.ensures) in (
      λ _. subst (All (λ u. g.I.Invariant.holds_on u.invariant (with_flow (g.I.Tried.Trial.tried u.trial).flows c.args.f)))
          (take_all c.loop-i.i old whole) c.loop-i.invariant.hold,
      λ _. refl,
    )
