use Rattle.std.proofs.Common.{◌≡◌, ◌+◌, length, suc, sym, ◌∙◌, ap, subst, add-one, arith}
use Rattle.std.specs.FinSet as set
use Rattle.flow_set.specs.inner.BitRows.{AreRows, rows_flows}
use Rattle.flow_set.specs.FlowSet.{SetOfFlows}
use Rattle.flow_set.specs.HostSet.{HostNumbers}
use Rattle.flow_set.specs.inner.HostSet.{row_of}
use Rattle.flow_set.proofs.BitRows.{length-rows_more, length-rows_none, row_read}
use Rattle.flow_set.proofs.set.FlowSet.len.Goals as goal

pub loop-row-init : goal.loop-row-init
loop-row-init c = record {
  counted = sym (length-rows_none c.args.self.now.size c.deref-row-items.result.now);
  small = omega arith;
}

pub loop-row-preserved : goal.loop-row-preserved
loop-row-preserved c =
    let n = c.args.self.now.size in
    let rows = c.deref-row-items.result.now in
    let m = c.loop-row.row-index in
    let are : AreRows n rows =
    subst (λ k. AreRows k rows) (ap (λ (s : SetOfFlows). s.size) c.self.view_is)
    (subst (AreRows c.self.inside.size) (sym c.deref-row-items.ensures.value) c.self.invariant) in
    let row : c.row-item.result ≡ row_of rows m = row_read rows m c.row-item.result c.loop-row-test.true c.row-item.is in
    let more : length (rows_flows rows n (suc m)) ≡ length (rows_flows rows n m) + set.len (row_of rows m) =
    length-rows_more n m rows are (omega (arith, c.loop-row-test.true, are.counted)) in
    let added : c.from-total.result ≡ set.len (row_of rows m) =
    c.from-total.ensures ∙ c.len.ensures ∙ ap (λ (s : HostNumbers). set.len s) row in
    record {
      counted = (λ i. c.loop-row.invariant.counted i + added i) ∙ sym (ap (λ k. length (rows_flows rows n k)) (add-one m) ∙ more);
      small = omega (arith, c.loop-row.invariant.small);
    }
