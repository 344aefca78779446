use Rattle.std.proofs.Common.{◌≡◌, List, replicate, [], refl, sym, ◌∙◌, ap, subst, arith}
use Rattle.std.specs.FinSet as set
use Rattle.flow_set.specs.inner.BitRows.{AreRows, flows_of}
use Rattle.flow_set.specs.laws.FlowLaws.{set_ext}
use Rattle.flow_set.specs.HostSet.{HostNumbers}
use Rattle.flow_set.proofs.BitRows.{AreRows-nothing, flows_of-nothing}
use Rattle.flow_set.proofs.set.FlowSet.empty.Goals as goal

pub invariant_of-result : goal.invariant_of-result
invariant_of-result c =
    let all : c.loop.counter ≡ c.args.size = omega arith in
    let rows : c.loop.rows.items ≡ replicate c.args.size set.empty = c.loop.invariant ∙ ap (λ n. replicate n set.empty) all in
    subst (AreRows c.args.size) (sym rows) (AreRows-nothing c.args.size c.requires)

pub returns : goal.returns
returns c =
    let all : c.loop.counter ≡ c.args.size = omega arith in
    let rows : c.loop.rows.items ≡ replicate c.args.size set.empty = c.loop.invariant ∙ ap (λ n. replicate n set.empty) all in
    set_ext (record { size = c.args.size; flows = flows_of c.loop.rows.items c.args.size }) (record { size = c.args.size; flows = [] }) refl
    (ap (λ (rs : List HostNumbers). flows_of rs c.args.size) rows ∙ flows_of-nothing c.args.size c.requires)
