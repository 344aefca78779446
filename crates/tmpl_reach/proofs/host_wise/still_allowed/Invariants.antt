use Rattle.std.proofs.Common.{◌-◌}
use Rattle.flow_set.specs.FlowSet.{with_flow}
use Rattle.tmpl_reach.proofs.EachHost.{UpTo}
use Rattle.tmpl_reach.proofs.host_wise.still_allowed.Given as goal

abbrev pub invariant-loop-host : goal.invariant-loop-host
invariant-loop-host g l = UpTo l.hosts (g.R.HostWise.allows_on l.rule (with_flow l.closure.flows l.f)) l.from

abbrev pub decreases-loop-host : goal.decreases-loop-host
decreases-loop-host g l = 256 - l.from
