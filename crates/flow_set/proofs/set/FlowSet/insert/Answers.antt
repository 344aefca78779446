use Rattle.std.proofs.Common.{◌≡◌, ◌<◌, length, refl, sym, ◌∙◌, ap, subst, arith}
use Rattle.std.specs.Prelude.{slice_set}
use Rattle.std.specs.FinSet as set
use Rattle.flow_set.specs.Flow.{IsFlow}
use Rattle.flow_set.specs.FlowSet.{SetOfFlows, with_flow}
use Rattle.flow_set.specs.inner.FlowSetView.{IsFlowSet}
use Rattle.flow_set.specs.laws.FlowLaws.{set_ext, with_flow_there}
use Rattle.flow_set.specs.inner.BitRows.{flows_of, AreRows}
use Rattle.flow_set.specs.HostSet.{HostNumbers}
use Rattle.flow_set.specs.inner.HostSet.{row_of}
use Rattle.flow_set.proofs.BitRows.{IsFlowSet-flows_of, AreRows-insert, flows_of-insert, row_read}
use Rattle.flow_set.proofs.set.FlowSet.insert.Goals as goal

pub invariant_of-self : goal.invariant_of-self
invariant_of-self c =
    let n = c.self.inside.size in
    let rows = c.self.inside.rows.items in
    let is_flow : IsFlow n c.args.f = subst (λ (s : SetOfFlows). IsFlow s.size c.args.f) (sym c.self.view_is) c.requires in
    let within : c.args.f.from < length rows = omega (arith, is_flow.0, c.self.invariant.counted) in
    let row : c.insert.new.self ≡ set.insert (row_of rows c.args.f.from) c.args.f.to =
    c.insert.ensures
    ∙ ap (λ (s : HostNumbers). set.insert s c.args.f.to)
    (row_read rows c.args.f.from c.index_mut-row.result.now within c.index_mut-row.ensures.value) in
    subst (λ (r : HostNumbers). AreRows n (slice_set rows c.args.f.from r)) (sym row)
    (AreRows-insert n rows c.args.f c.self.invariant is_flow)

pub returns-clause-set : goal.returns-clause-set
returns-clause-set c =
    let n = c.self.inside.size in
    let rows = c.self.inside.rows.items in
    let is_flow : IsFlow n c.args.f = subst (λ (s : SetOfFlows). IsFlow s.size c.args.f) (sym c.self.view_is) c.requires in
    let within : c.args.f.from < length rows = omega (arith, is_flow.0, c.self.invariant.counted) in
    let row : c.insert.new.self ≡ set.insert (row_of rows c.args.f.from) c.args.f.to =
    c.insert.ensures
    ∙ ap (λ (s : HostNumbers). set.insert s c.args.f.to)
    (row_read rows c.args.f.from c.index_mut-row.result.now within c.index_mut-row.ensures.value) in
    set_ext (record { size = n; flows = flows_of (slice_set rows c.args.f.from c.insert.new.self) n })
    (record { size = c.args.self.now.size; flows = with_flow c.args.self.now.flows c.args.f })
    (ap (λ (s : SetOfFlows). s.size) c.self.view_is)
    (ap (λ (r : HostNumbers). flows_of (slice_set rows c.args.f.from r) n) row
    ∙ flows_of-insert n rows c.args.f c.self.invariant is_flow
    ∙ ap (λ (s : SetOfFlows). with_flow s.flows c.args.f) c.self.view_is)

pub returns-then-has-clause-set : goal.returns-then-has-clause-set
returns-then-has-clause-set c =
    let there = sym c.has.ensures ∙ c.if-has.true in
    let set =
    subst (λ (s : SetOfFlows). IsFlowSet s.size s.flows) c.self.view_is
    (IsFlowSet-flows_of c.self.inside.size c.self.inside.rows.items c.self.invariant) in
    set_ext c.args.self.now (record { size = c.args.self.now.size; flows = with_flow c.args.self.now.flows c.args.f }) refl
    (sym (with_flow_there c.args.self.now.flows c.args.f set.ordered there))
