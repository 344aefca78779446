use Rattle.std.proofs.Common.{◌≡◌, ℕ, ◌≤◌, ◌+◌, ◌∙◌, sym, subst, List, length, arith}
use Rattle.flow_set.specs.FlowSet.{SetOfFlows}
use Rattle.inv_any.specs.declared.any_inv.AnyInv.{AnyInv}
use Rattle.net_core.specs.inner.FailingFlows.{FailsIn}
use Rattle.net_core.proofs.FailingLemmas.{FailUpTo, fail_pushed, past_in, read_at}
use Rattle.net_core.proofs.failing.failing_flows.Goals as goal

pub loop-invariant-preserved : goal.loop-invariant-preserved
loop-invariant-preserved c =
    let d = c.args.description.now in
    let i = c.loop-invariant.invariant-index in
    let inv = c.invariant-item.result in
    let new = c.in_ok-failing_on.field-0 in
    let there =
    read_at c.invariants-invariant-items.result.now d.invariants i inv c.invariants-invariant-items.ensures.value c.loop-invariant-test.true c.invariant-item.is in
    let fails : FailsIn d.asked.size d.asked.flows inv new =
    subst (λ (s : SetOfFlows). FailsIn s.size s.flows inv new) c.asked-asked.ensures.value c.in_ok-failing_on.ensures in
    record {
      counted = omega (arith, c.in_ok-push.ensures.len, c.loop-invariant.invariant.counted);
      done = subst (λ (sets : List SetOfFlows). FailUpTo d.asked.size d.asked.flows d.invariants sets (i + 1)) (sym {A = List SetOfFlows} c.in_ok-push.ensures.items)
          (fail_pushed d.asked.size d.asked.flows d.invariants c.loop-invariant.failing.items i inv new there
          (sym {A = ℕ} c.loop-invariant.failing.ok.0 ∙ c.loop-invariant.invariant.counted) fails c.loop-invariant.invariant.done);
    }

pub returns : goal.returns
returns c =
    let d = c.args.description.now in
    let i = c.loop-invariant.invariant-index in
    let past = past_in c.invariants-invariant-items.result.now d.invariants i c.invariants-invariant-items.ensures.value c.loop-invariant-test.false in
    let count : length c.loop-invariant.failing.items ≡ i = sym c.loop-invariant.failing.ok.0 ∙ c.loop-invariant.invariant.counted in
    let end : i ≤ length d.invariants = subst (λ (xs : List AnyInv). i ≤ length xs) c.invariants-invariant-items.ensures.value c.loop-invariant.auto.invariant-index-end in
    record {
      counted = omega (arith, count, end, past);
      each = λ k inv s within. c.loop-invariant.invariant.done k inv s (omega (arith, within, past));
    }
