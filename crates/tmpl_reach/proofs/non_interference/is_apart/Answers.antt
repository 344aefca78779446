use Rattle.std.proofs.Common.{ap, ◌∙◌}
use Rattle.std.specs.FinSet as set
use Rattle.flow_set.specs.HostSet.{HostNumbers}
use Rattle.reach_core.specs.Walks.{Joined}
use Rattle.tmpl_reach.proofs.OtherHosts.{apart_but}
use Rattle.tmpl_reach.proofs.non_interference.is_apart.Goals as goal

pub returns : goal.returns
returns c =
    let law =
    apart_but c.joined_with.result.now c.remove.new.self c.args.hosts.now c.args.host
    (Joined c.args.closure.now.flows c.args.host) c.joined_with.ensures
    (c.remove.ensures ∙ ap (λ (s : HostNumbers). set.remove s c.args.host) c.copy-others.ensures) in
    (λ yes. law.0 (c.is_apart.ensures.0 yes), λ none. c.is_apart.ensures.1 (law.1 none))
