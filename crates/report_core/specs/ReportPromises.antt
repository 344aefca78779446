-- The guarantees of a report to an operator. They follow from the definition of the report.
use Rattle.std.specs.Prelude.{◌↔◌, ℕ, List, Option, IsTrue, IsSome, IfSome, is_some, length}
use Rattle.std.specs.List.{AllZip, list_any}
use Rattle.net_core.specs.Network.{Network}
use Rattle.flow_set.specs.EveryFlow.{every_flow}
use Rattle.flow_set.specs.Conditions.{IsMinimalOffending}
use Rattle.flow_set.specs.FlowSet.{IsFull}
use Rattle.flow_set.specs.declared.flow.Flow.{Flow}
use Rattle.inv_any.specs.declared.any_inv.AnyInv.{AnyInv}
use Rattle.net_core.specs.Policies.{IsGreatestPolicy, IsEdgeWiseNetwork, MeetsAll, CompliesWithAll, holds_on}
use Rattle.report_core.specs.CheckReport.{IsCheckReport}
use Rattle.report_core.specs.PolicyReport.{IsPolicyReport}

-- ---- the report of `check`

-- An invariant is reported to fail if and only if the requested flows violate it, and the flows that are listed for it are a minimal
-- offending set: without them it holds, and with any one of them it does not.
pub record ReportsViolation (d : Network) (inv : AnyInv) (offence : Option (List Flow)) : Type 0 where
  pub broken : IsSome offence ↔ (holds_on inv d.asked.flows → ⊥)
  pub minimal : IfSome offence (IsMinimalOffending (holds_on inv) d.asked.flows)

-- The report covers each invariant, in the order of the description, and if not all of them hold it names one that fails.
pub record ReportsViolations (d : Network) (report : List ℕ) : Type 0 where
  pub is : IsCheckReport d report
  pub told : AllZip (ReportsViolation d) d.invariants is.offences
  pub names_one : (MeetsAll d d.asked.flows → ⊥) → IsTrue (list_any is_some is.offences)

-- ---- the report of `policy`

-- The report covers each flow between two hosts, for a single policy, that of the network. Its permitted flows satisfy every invariant, and
-- are the greatest such set if all of them are edge-wise; with the answers to its stateful flows it complies with every invariant.
pub record ReportsPolicy (d : Network) (report : List ℕ) : Type 0 where
  pub is : IsPolicyReport d report
  pub every : IsFull (length d.hosts) (every_flow (length d.hosts))
  pub meets : MeetsAll d is.policy.permitted.flows
  pub greatest : IsEdgeWiseNetwork d → IsGreatestPolicy d is.policy
  pub complies : CompliesWithAll d is.policy
