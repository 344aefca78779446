-- The report of `check` (docs/TEXTS.md): for each invariant whether it holds on the requested flows, and if not, its offending flows.
use Rattle.std.specs.Prelude.{◌≡◌, ℕ, List, ◌++◌, flat_map, Option, None, Some, codes}
use Rattle.std.specs.List.{AllZip, zip}
use Rattle.text_core.specs.FirstMatch.{Numbered, numbered}
use Rattle.net_core.specs.Network.{Network}
use Rattle.flow_set.specs.Conditions.{IsFirst}
use Rattle.flow_set.specs.FlowSet.{without}
use Rattle.flow_set.specs.declared.flow.Flow.{Flow}
use Rattle.host_net.specs.Host.{Host}
use Rattle.inv_any.specs.declared.any_inv.AnyInv.{AnyInv}
use Rattle.net_core.specs.Policies.{holds_on}
use Rattle.report_core.specs.Names.{flow_text, invariant_text}

-- The finding for an invariant: nothing if it holds on the flows, otherwise the flows outside the first subset of them on which it holds.
abbrev pub IsViolation : (List Flow → Type 0) → List Flow → Option (List Flow) → Type 0
IsViolation Holds asked None = Holds asked
IsViolation Holds asked (Some offending) =
    (Holds asked → ⊥) × ((first : List Flow) × IsFirst Holds asked first × (offending ≡ without asked first))

-- The finding for each invariant, in order.
abbrev pub AreViolations : List AnyInv → List Flow → List (Option (List Flow)) → Type 0
AreViolations invs asked = AllZip (λ inv. IsViolation (holds_on inv) asked) invs

-- The line of an offending flow.
unfoldable pub offending_line : List Host → Flow → List ℕ
offending_line hosts f = codes "  " ++ (flow_text hosts f ++ codes "\n")

-- One line if the invariant holds; otherwise one line that states the failure, and one for each offending flow.
abbrev pub violation_text : List Host → ℕ → AnyInv → Option (List Flow) → List ℕ
violation_text hosts number inv None = codes "invariant " ++ (invariant_text number inv ++ codes " ok\n")
violation_text hosts number inv (Some offending) =
    codes "invariant " ++ (invariant_text number inv ++ (codes " fails\n" ++ flat_map (offending_line hosts) offending))

-- The report on all invariants, by their numbers.
abbrev pub check_text : List Host → List AnyInv → List (Option (List Flow)) → List ℕ
check_text hosts invs offences =
    flat_map (λ (told : Numbered AnyInv × Option (List Flow)). violation_text hosts told.0.number told.0.what told.1) (zip (numbered invs) offences)

-- The text is the report of the network.
pub record IsCheckReport (d : Network) (text : List ℕ) : Type 0 where
  pub offences : List (Option (List Flow))
  pub found : AreViolations d.invariants d.asked.flows offences
  pub written : text ≡ check_text d.hosts d.invariants offences
