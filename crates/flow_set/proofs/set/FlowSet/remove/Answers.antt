use Rattle.std.proofs.Common.{◌≡◌, ◌<◌, length, refl, sym, ◌∙◌, ap, subst, arith}
use Rattle.std.specs.Prelude.{slice_set}
use Rattle.std.specs.FinSet as set
use Rattle.flow_set.specs.Flow.{IsFlow}
use Rattle.flow_set.specs.FlowSet.{SetOfFlows}
use Rattle.flow_set.specs.inner.FlowSetView.{without_flow}
use Rattle.flow_set.specs.laws.FlowLaws.{set_ext, without_flow_absent}
use Rattle.flow_set.specs.inner.BitRows.{flows_of, AreRows}
use Rattle.flow_set.specs.HostSet.{HostNumbers}
use Rattle.flow_set.specs.inner.HostSet.{row_of}
use Rattle.flow_set.proofs.BitRows.{AreRows-remove, flows_of-remove, row_read}
use Rattle.flow_set.proofs.set.FlowSet.remove.Goals as goal

pub invariant_of-self : goal.invariant_of-self
invariant_of-self c =
    let n = c.self.inside.size in
    let rows = c.self.inside.rows.items in
    let is_flow : IsFlow n c.args.f = subst (λ (s : SetOfFlows). IsFlow s.size c.args.f) (sym c.self.view_is) c.requires in
    let within : c.args.f.from < length rows = omega (arith, is_flow.0, c.self.invariant.counted) in
    let row : c.remove.new.self ≡ set.remove (row_of rows c.args.f.from) c.args.f.to =
    c.remove.ensures
    ∙ ap (λ (s : HostNumbers). set.remove s c.args.f.to)
    (row_read rows c.args.f.from c.index_mut-row.result.now within c.index_mut-row.ensures.value) in
    subst (λ (r : HostNumbers). AreRows n (slice_set rows c.args.f.from r)) (sym row)
    (AreRows-remove n rows c.args.f c.self.invariant is_flow)

pub returns-clause-set : goal.returns-clause-set
returns-clause-set c =
    let n = c.self.inside.size in
    let rows = c.self.inside.rows.items in
    let is_flow : IsFlow n c.args.f = subst (λ (s : SetOfFlows). IsFlow s.size c.args.f) (sym c.self.view_is) c.requires in
    let within : c.args.f.from < length rows = omega (arith, is_flow.0, c.self.invariant.counted) in
    let row : c.remove.new.self ≡ set.remove (row_of rows c.args.f.from) c.args.f.to =
    c.remove.ensures
    ∙ ap (λ (s : HostNumbers). set.remove s c.args.f.to)
    (row_read rows c.args.f.from c.index_mut-row.result.now within c.index_mut-row.ensures.value) in
    set_ext (record { size = n; flows = flows_of (slice_set rows c.args.f.from c.remove.new.self) n })
    (record { size = c.args.self.now.size; flows = without_flow c.args.self.now.flows c.args.f })
    (ap (λ (s : SetOfFlows). s.size) c.self.view_is)
    (ap (λ (r : HostNumbers). flows_of (slice_set rows c.args.f.from r) n) row
    ∙ flows_of-remove n rows c.args.f c.self.invariant is_flow
    ∙ ap (λ (s : SetOfFlows). without_flow s.flows c.args.f) c.self.view_is)

pub returns-then-not-has-clause-set : goal.returns-then-not-has-clause-set
returns-then-not-has-clause-set c =
    let absent = sym c.has.ensures ∙ c.if-not-has.true in
    set_ext c.args.self.now (record { size = c.args.self.now.size; flows = without_flow c.args.self.now.flows c.args.f }) refl
    (sym (without_flow_absent c.args.self.now.flows c.args.f absent))
