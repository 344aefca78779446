use Rattle.std.proofs.Common.{◌∙◌}
use Rattle.host_net.specs.Site.{site_with}
use Rattle.pkt_core.specs.FlowPolicy.{policy_with}
use Rattle.run_core.proofs.flow_policy.policy_between.Goals as goal

pub returns : goal.returns
returns c =
    c.new.ensures
    ∙ (λ i. policy_with (site_with (c.hosts.ensures.value i) (c.services.ensures.value i)) (c.permitted.ensures.value i).flows (c.stateful.ensures.value i).flows)
