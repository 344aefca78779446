use Rattle.std.proofs.Common.{◌≡◌, ◌∙◌, sym, subst, length, length-set, arith}
use Rattle.inv_any.specs.Templates.{meaning_of}
use Rattle.inv_any.specs.declared.any_inv.AnyInv.{AnyInv}
use Rattle.net_core.specs.inner.Asking.{flows_where}
use Rattle.net_core.proofs.FailingLemmas.{fail_next, past_in, read_at, same_next, set_here}
use Rattle.net_core.proofs.failing.change_failing.Goals as goal

pub change_where_failing-requires-clause-size : goal.change_where_failing-requires-clause-size
change_where_failing-requires-clause-size c =
    let d = c.args.description.now in
    let i = c.loop-place.place in
    let inv = c.index-invariants-place.result in
    let there = read_at c.invariants-invariants.result.now d.invariants i inv c.invariants-invariants.ensures.value c.loop-place-test.true c.index-invariants-place.is in
    let sized : (meaning_of inv).size ≡ length d.hosts =
    subst (λ (x : AnyInv). (meaning_of x).size ≡ length d.hosts) (sym there.is) (c.invariants-invariants.ensures.sizes i inv there.within) in
    sized ∙ sym c.asked-asked.ensures.size

pub change_where_failing-requires-clause-failing : goal.change_where_failing-requires-clause-failing
change_where_failing-requires-clause-failing c =
    let d = c.args.description.now in
    let i = c.loop-place.place in
    let inv = c.index-invariants-place.result in
    let there = read_at c.invariants-invariants.result.now d.invariants i inv c.invariants-invariants.ensures.value c.loop-place-test.true c.index-invariants-place.is in
    set_here d.asked.size d.asked.flows d.invariants c.args.failing.now.items c.loop-place.failing.items i inv c.index_mut.result.now there
    c.index_mut.ensures.value c.requires.failing.each c.loop-place.invariant.rest

pub loop-place-preserved : goal.loop-place-preserved
loop-place-preserved c =
    let d = c.args.description.now in
    let i = c.loop-place.place in
    let inv = c.index-invariants-place.result in
    let there = read_at c.invariants-invariants.result.now d.invariants i inv c.invariants-invariants.ensures.value c.loop-place-test.true c.index-invariants-place.is in
    let new = c.change_where_failing.new.failing in
    record {
      counted = simp length-set c.loop-place.invariant.counted;
      done =
          fail_next d.asked.size (flows_where c.args.asked d.asked.flows c.args.flow) d.invariants c.loop-place.failing.items i inv new there
          c.loop-place.invariant.counted c.change_where_failing.ensures c.loop-place.invariant.done;
      rest = same_next c.loop-place.failing.items c.args.failing.now.items i new c.loop-place.invariant.rest;
    }

pub returns : goal.returns
returns c =
    let past = past_in c.invariants-invariants.result.now c.args.description.now.invariants c.loop-place.place c.invariants-invariants.ensures.value c.loop-place-test.false in
    record {
      counted = c.loop-place.invariant.counted;
      each = λ k inv s within. c.loop-place.invariant.done k inv s (omega (arith, within, past));
    }
