-- `check FILE`: whether the requested flows satisfy the invariants.
use Rattle.std.specs.Prelude.{[], ◌∷◌}
use Rattle.net_core.specs.Network.{Network}
use Rattle.net_core.specs.Policies.{MeetsAll}
use Rattle.report_core.specs.CheckReport.{IsCheckReport}
use Rattle.report_core.specs.ReportPromises.{ReportsViolations}
use Rattle.run_core.specs.Outcomes.{Outcome, Outcomes}
use Rattle.run_core.specs.declared.status.Status.{Status}
use Rattle.run_core.specs.declared.status.Status.TheVariants.{Violated, Done}

-- Every invariant holds on the requested flows.
abbrev pub AskedHolds : Network → Type 0
AskedHolds d = MeetsAll d d.asked.flows

-- The report states of each invariant whether the requested flows satisfy it, and if not, a minimal offending set of them.
abbrev pub offences_when : Status → Type 0 → Network → Outcome
offences_when ended when d = record { status = ended; when = when; is = IsCheckReport d; guarantees = ReportsViolations d }

-- The report, with status violated if an invariant fails on the requested flows.
abbrev pub check_outcomes : Network → Outcomes
check_outcomes d = offences_when Violated (AskedHolds d → ⊥) d ∷ (offences_when Done (AskedHolds d) d ∷ [])
