-- The number of invariants that fail on a set of flows.
use Rattle.std.specs.Prelude.{◌≡◌, ◌↔◌, ℕ, Bool, List, length, IsFalse}
use Rattle.std.specs.List.{AllZip, filter}
use Rattle.flow_set.specs.declared.flow.Flow.{Flow}
use Rattle.inv_any.specs.declared.any_inv.AnyInv.{AnyInv}
use Rattle.net_core.specs.Policies.{holds_on}

-- `count` is the number of invariants that fail on the flows: each invariant has a mark, which is false if and only if
-- the invariant holds.
pub record AreFailing (invs : List AnyInv) (flows : List Flow) (count : ℕ) : Type 0 where
  pub marks : List Bool
  pub each : AllZip (λ inv failed. IsFalse failed ↔ holds_on inv flows) invs marks
  pub counted : count ≡ length (filter (λ failed. failed) marks)
