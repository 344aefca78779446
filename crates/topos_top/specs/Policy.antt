-- `policy FILE`: the status of each flow, and the reason.
use Rattle.net_core.specs.Network.{Network}
use Rattle.report_core.specs.PolicyReport.{IsPolicyReport}
use Rattle.report_core.specs.ReportPromises.{ReportsPolicy}
use Rattle.run_core.specs.Outcomes.{Outcomes, writes}

-- The report states for each flow whether the policy permits it, and which invariant denies it.
abbrev pub policy_outcomes : Network → Outcomes
policy_outcomes d = writes (IsPolicyReport d) (ReportsPolicy d)
