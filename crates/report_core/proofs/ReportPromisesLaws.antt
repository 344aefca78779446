-- Each report of a network has its guarantees.
use Rattle.std.proofs.Common.{ℕ, List, [], ◌∷◌, Option, None, Some, length, refl}
use Rattle.std.specs.List.{list_any}
use Rattle.std.specs.Prelude.{IsTrue, is_some}
use Rattle.std.proofs.lemmas.Bool.{false≢true}
use Rattle.std.proofs.lemmas.List.Elements.{All-cons, All-nil}
use Rattle.flow_set.proofs.EveryFlowLaws.{IsFull-every_flow}
use Rattle.net_core.specs.Network.{Network}
use Rattle.net_core.specs.inner.Fitting.{IsNetwork}
use Rattle.flow_set.specs.FlowSet.{IsOrdered}
use Rattle.flow_set.specs.declared.flow.Flow.{Flow}
use Rattle.inv_any.specs.declared.any_inv.AnyInv.{AnyInv}
use Rattle.permit_core.specs.Policy.{AllHold}
use Rattle.net_core.proofs.HeadlineLaws.{IsGreatestPolicy-from_policy, CompliesWithAll-from_policy}
use Rattle.net_core.specs.Policies.{holds_on}
use Rattle.report_core.specs.CheckReport.{IsViolation, AreViolations, IsCheckReport}
use Rattle.report_core.specs.PolicyReport.{IsPolicyReport}
use Rattle.report_core.proofs.ReportLaws.{offence_is_minimal}
use Rattle.report_core.proofs.ZipLaws.{zip_weaker}
use Rattle.report_core.specs.ReportPromises.{ReportsViolation, ReportsViolations, ReportsPolicy}

-- ---- the report of `check`

tells_offence : (d : Network) → IsOrdered d.asked.flows → (inv : AnyInv) (o : Option (List Flow)) → IsViolation (holds_on inv) d.asked.flows o
    → ReportsViolation d inv o
tells_offence d ordered inv None holds = record {
  broken = (λ named. absurd (false≢true named), λ broken. absurd (broken holds));
  minimal = tt;
}
tells_offence d ordered inv (Some flows) offence = record {
  broken = (λ named. offence.0, λ broken. refl);
  minimal = offence_is_minimal (holds_on inv) d.asked.flows flows ordered offence;
}

names_one : (invs : List AnyInv) (asked : List Flow) (os : List (Option (List Flow))) → AreViolations invs asked os
    → (AllHold holds_on invs asked → ⊥) → IsTrue (list_any is_some os)
names_one [] asked os found not_all = absurd (not_all (All-nil (λ inv. holds_on inv asked)))
names_one (inv ∷ invs) asked [] found not_all = absurd found
names_one (inv ∷ invs) asked (Some flows ∷ os) found not_all = refl
names_one (inv ∷ invs) asked (None ∷ os) found not_all =
    names_one invs asked os found.1 (λ all. not_all (All-cons (λ x. holds_on x asked) inv invs found.0 all))

pub reports_violations : (d : Network) (report : List ℕ) → IsNetwork d → IsCheckReport d report → ReportsViolations d report
reports_violations d report network is = record {
  is = is;
  told =
      zip_weaker (λ (inv : AnyInv). IsViolation (holds_on inv) d.asked.flows) (ReportsViolation d) (tells_offence d network.asked.ordered)
      d.invariants is.offences is.found;
  names_one = names_one d.invariants d.asked.flows is.offences is.found;
}

-- ---- the report of `policy`

pub reports_policy : (d : Network) (report : List ℕ) → IsNetwork d → IsPolicyReport d report → ReportsPolicy d report
reports_policy d report network is = record {
  is = is;
  every = IsFull-every_flow (length d.hosts);
  meets = is.is_policy.permitted.holds;
  greatest = IsGreatestPolicy-from_policy d is.policy network is.is_policy;
  complies = CompliesWithAll-from_policy d is.policy network is.is_policy;
}
