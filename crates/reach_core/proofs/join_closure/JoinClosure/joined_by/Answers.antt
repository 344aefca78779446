use Rattle.std.proofs.Common.{◌∙◌, ap}
use Rattle.std.specs.FinSet as set
use Rattle.flow_set.specs.HostSet.{HostNumbers}
use Rattle.reach_core.proofs.JoinRows.{touched, joined_as_touched}
use Rattle.reach_core.proofs.join_closure.JoinClosure.joined_by.Goals as goal

pub returns : goal.returns
returns c i =
    joined_as_touched c.args.self.now.flows c.args.f i (set.contains c.insert-2.new.self i)
    (touched c.args.self.now.flows c.args.f c.joined_with.result.now c.joined_with-2.result.now c.insert-2.new.self c.joined_with.ensures c.joined_with-2.ensures
    (c.insert-2.ensures ∙ ap (λ (s : HostNumbers). set.insert s c.args.f.to) c.insert.ensures
    ∙ ap (λ (s : HostNumbers). set.insert (set.insert s c.args.f.from) c.args.f.to) (c.insert_all.ensures ∙ ap (λ (s : HostNumbers). set.union s c.joined_with-2.result.now) c.copy-all.ensures))
    i)
