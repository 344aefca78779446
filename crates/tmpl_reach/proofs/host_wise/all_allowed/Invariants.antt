use Rattle.std.proofs.Common.{ℕ, ◌<◌}
use Rattle.tmpl_reach.proofs.host_wise.all_allowed.Given as goal

abbrev pub invariant-loop-host : goal.invariant-loop-host
invariant-loop-host g l = (i : ℕ) → i < l.host → g.R.HostWise.allows_on l.rule l.closure.flows i
