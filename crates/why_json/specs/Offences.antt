-- The invariants of a network, each with the requested flows that offend it.
use Rattle.std.specs.Prelude.{◌≡◌, List, All, length, map, slice_get, Some}
use Rattle.std.specs.List.{range_with_len}
use Rattle.std.specs.Option.{option_map}
use Rattle.inv_any.specs.declared.any_inv.AnyInv.{AnyInv}
use Rattle.net_core.specs.Network.{Network}
use Rattle.net_core.specs.Policies.{holds_on}
use Rattle.report_core.specs.CheckReport.{IsViolation}
use Rattle.why_json.specs.declared.offence.Offence.{Offence}

-- The offence is of the invariant with its number: no flows if the invariant holds on the requested flows, and otherwise the requested
-- flows outside the first subset of them on which it holds, which are a minimal offending set.
pub record IsViolationOf (d : Network) (x : Offence) : Type 0 where
  pub inv : AnyInv
  pub place : slice_get d.invariants x.number ≡ Some inv
  pub found : IsViolation (holds_on inv) d.asked.flows (option_map (λ set. set.flows) x.flows)

-- The offences are of all invariants of the network, in order.
pub record AreOffencesOf (d : Network) (offences : List Offence) : Type 0 where
  pub numbers : map (λ offence. offence.number) offences ≡ range_with_len 0 (length d.invariants)
  pub each : All (IsViolationOf d) offences
