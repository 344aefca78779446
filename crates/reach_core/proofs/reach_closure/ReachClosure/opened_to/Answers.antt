use Rattle.std.proofs.Common.{◌∙◌, ap}
use Rattle.std.specs.FinSet as set
use Rattle.flow_set.specs.HostSet.{HostNumbers}
use Rattle.reach_core.proofs.Opening.{opens_to}
use Rattle.reach_core.proofs.reach_closure.ReachClosure.opened_to.Goals as goal

pub returns : goal.returns
returns c =
    opens_to c.args.self.now.flows c.args.f c.reached_from.result.now c.reached_from-2.result.now c.remove_all.new.self c.reached_from.ensures c.reached_from-2.ensures
    (c.remove_all.ensures
    ∙ ap (λ (s : HostNumbers). set.difference s c.reached_from-2.result.now) (c.insert.ensures ∙ ap (λ (s : HostNumbers). set.insert s c.args.f.to) c.copy-hosts.ensures))
