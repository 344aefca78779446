use Rattle.std.proofs.Common.{◌∙◌, ap}
use Rattle.std.specs.FinSet as set
use Rattle.flow_set.specs.HostSet.{HostNumbers}
use Rattle.reach_core.proofs.Opening.{reaches_with}
use Rattle.reach_core.proofs.reach_closure.ReachClosure.reached_with.Goals as goal

pub returns : goal.returns
returns c =
    reaches_with c.args.self.now.flows c.args.f c.args.i c.reached_from.result.now c.reached_from-2.result.now c.insert_all.new.self c.insert.new.self
    c.requires.comes c.reached_from.ensures c.reached_from-2.ensures
    (c.insert_all.ensures ∙ ap (λ (s : HostNumbers). set.union s c.reached_from-2.result.now) c.copy-hosts.ensures) c.insert.ensures
