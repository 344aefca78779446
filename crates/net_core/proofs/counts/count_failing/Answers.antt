use Rattle.std.proofs.Common.{refl, sym, subst, arith}
use Rattle.std.specs.Prelude.{◌↔◌, IsFalse}
use Rattle.std.proofs.lemmas.Bool.{both_ways}
use Rattle.flow_set.specs.inner.Downward.{IsEdgeWise}
use Rattle.inv_any.specs.declared.any_inv.AnyInv.{AnyInv}
use Rattle.net_core.specs.Policies.{holds_on}
use Rattle.net_core.proofs.CountLemmas.{count_all, count_fails, count_holds}
use Rattle.net_core.proofs.FailingLemmas.{past_in, read_at, set_here}
use Rattle.net_core.proofs.EdgePolicyLaws.{each_edge_wise}
use Rattle.net_core.specs.inner.FailingFlows.{FailsIn}
use Rattle.net_core.proofs.counts.count_failing.Goals.{then-fails, else-fails}
use Rattle.net_core.proofs.counts.count_failing.Goals as goal

pub loop-place-preserved : goal.loop-place-preserved
loop-place-preserved c =
    let d = c.args.description.now in
    let n = d.asked.size in
    let i = c.loop-place.place in
    let inv = c.index-invariants-place.result in
    let there = read_at c.invariants-invariants.result.now d.invariants i inv c.invariants-invariants.ensures.value c.loop-place-test.true c.index-invariants-place.is in
    let set = c.index-failing-place.result in
    let here : FailsIn n d.asked.flows inv set =
    set_here n d.asked.flows d.invariants c.args.failing.now c.args.failing.now i inv set there c.index-failing-place.is c.requires.failing.each (λ j s from. refl) in
    let alone : IsEdgeWise n (holds_on inv) =
    subst (λ (x : AnyInv). IsEdgeWise n (holds_on x)) (sym there.is) (each_edge_wise d c.requires.network c.requires.alone i inv there.within) in
    let told : IsFalse c.fails.result ↔ holds_on inv d.asked.flows = c.fails.ensures n d.asked.flows c.requires.network.asked alone here.flows in
    elim c.if-fails.branch [
      | then-fails w ↦ record {
        goes = rw w.count-is (count_fails d.invariants d.asked.flows i c.loop-place.count inv there (λ holds. both_ways _ (told.1 holds) w.if-fails.true) c.loop-place.invariant.goes);
        small = omega (arith, w.count-is, c.loop-place.invariant.small);
      }
      | else-fails w ↦ record {
        goes = rw w.count-is (count_holds d.invariants d.asked.flows i c.loop-place.count inv there (told.0 w.if-fails.false) c.loop-place.invariant.goes);
        small = omega (arith, w.count-is, c.loop-place.invariant.small);
      }
    ]

pub returns : goal.returns
returns c =
    let d = c.args.description.now in
    let i = c.loop-place.place in
    count_all d.invariants d.asked.flows i c.loop-place.count
    (past_in c.invariants-invariants.result.now d.invariants i c.invariants-invariants.ensures.value c.loop-place-test.false) c.loop-place.invariant.goes
