use Rattle.std.proofs.Common.{subst, arith}
use Rattle.std.specs.Prelude.{◌↔◌, IsTrue}
use Rattle.std.proofs.lemmas.Bool.{both_ways}
use Rattle.flow_set.specs.FlowSet.{SetOfFlows}
use Rattle.net_core.proofs.CountLemmas.{count_all, count_fails, count_holds}
use Rattle.net_core.proofs.FailingLemmas.{past_in, read_at}
use Rattle.net_core.specs.Policies.{holds_on}
use Rattle.net_core.proofs.counts.count_failed.Goals.{then-not-branch, else-not-branch}
use Rattle.net_core.proofs.counts.count_failed.Goals as goal

pub loop-invariant-preserved : goal.loop-invariant-preserved
loop-invariant-preserved c =
    let d = c.args.description.now in
    let i = c.loop-invariant.invariant-index in
    let inv = c.invariant-item.result in
    let there =
    read_at c.invariants-invariant-items.result.now d.invariants i inv c.invariants-invariant-items.ensures.value c.loop-invariant-test.true c.invariant-item.is in
    let told : IsTrue c.in_ok-holds.field-0 ↔ holds_on inv d.asked.flows =
    subst (λ (s : SetOfFlows). IsTrue c.in_ok-holds.field-0 ↔ holds_on inv s.flows) c.asked-asked.ensures.value c.in_ok-holds.ensures in
    elim c.if-not-branch.branch [
      | then-not-branch w ↦ record {
        goes = rw w.count-is (count_fails d.invariants d.asked.flows i c.loop-invariant.count inv there (λ holds. both_ways _ w.if-not-branch.true (told.1 holds)) c.loop-invariant.invariant.goes);
        small = omega (arith, w.count-is, c.loop-invariant.invariant.small);
      }
      | else-not-branch w ↦ record {
        goes = rw w.count-is (count_holds d.invariants d.asked.flows i c.loop-invariant.count inv there (told.0 w.if-not-branch.false) c.loop-invariant.invariant.goes);
        small = omega (arith, w.count-is, c.loop-invariant.invariant.small);
      }
    ]

pub returns : goal.returns
returns c =
    let d = c.args.description.now in
    let i = c.loop-invariant.invariant-index in
    count_all d.invariants d.asked.flows i c.loop-invariant.count
    (past_in c.invariants-invariant-items.result.now d.invariants i c.invariants-invariant-items.ensures.value c.loop-invariant-test.false) c.loop-invariant.invariant.goes
