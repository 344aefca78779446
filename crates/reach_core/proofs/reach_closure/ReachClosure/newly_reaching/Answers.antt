use Rattle.std.proofs.Common.{◌∙◌, ap}
use Rattle.std.specs.FinSet as set
use Rattle.flow_set.specs.HostSet.{HostNumbers}
use Rattle.reach_core.proofs.Opening.{opens_from, opens_no_other}
use Rattle.reach_core.proofs.reach_closure.ReachClosure.newly_reaching.Goals as goal

pub returns-clause-hosts : goal.returns-clause-hosts
returns-clause-hosts c =
    opens_from c.args.self.now.flows c.args.f c.ancestors_of.result.now c.ancestors_of-2.result.now c.remove_all.new.self c.ancestors_of.ensures c.ancestors_of-2.ensures
    (c.remove_all.ensures
    ∙ ap (λ (s : HostNumbers). set.difference s c.ancestors_of-2.result.now) (c.insert.ensures ∙ ap (λ (s : HostNumbers). set.insert s c.args.f.from) c.copy-hosts.ensures))

pub returns-clause-others : goal.returns-clause-others
returns-clause-others c =
    opens_no_other c.args.self.now.flows c.args.f c.ancestors_of.result.now c.ancestors_of-2.result.now c.remove_all.new.self c.ancestors_of.ensures c.ancestors_of-2.ensures
    (c.remove_all.ensures
    ∙ ap (λ (s : HostNumbers). set.difference s c.ancestors_of-2.result.now) (c.insert.ensures ∙ ap (λ (s : HostNumbers). set.insert s c.args.f.from) c.copy-hosts.ensures))
