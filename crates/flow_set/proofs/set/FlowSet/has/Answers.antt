use Rattle.std.proofs.Common.{◌<◌, length, sym, ◌∙◌, ap, arith}
use Rattle.std.specs.FinSet as set
use Rattle.std.proofs.lemmas.List.{get_or_read}
use Rattle.flow_set.specs.FlowSet.{SetOfFlows, has}
use Rattle.flow_set.specs.HostSet.{HostNumbers}
use Rattle.flow_set.proofs.BitRows.{has-flows_of}
use Rattle.flow_set.proofs.set.FlowSet.has.Goals as goal

pub returns : goal.returns
returns c =
    let rows = c.self.inside.rows.items in
    let within : c.args.f.from < length rows =
    omega (arith, c.requires.0, c.self.invariant.counted, ap (λ (s : SetOfFlows). s.size) c.self.view_is) in
    c.has.ensures
    ∙ ap (λ (s : HostNumbers). set.contains s c.args.f.to)
    (get_or_read rows c.args.f.from c.index.result.now within c.index.ensures set.empty)
    ∙ sym (has-flows_of c.self.inside.size rows c.args.f c.self.invariant) ∙ ap (λ (s : SetOfFlows). has s.flows c.args.f) c.self.view_is
