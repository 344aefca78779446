-- The invariants before `inv` hold.
use Rattle.std.proofs.Common.{All, take}
use Rattle.net_core.specs.Policies.{holds_on}
use Rattle.topos_top.proofs.listed.all_hold.Given as goal

abbrev pub invariant-loop-inv : goal.invariant-loop-inv
invariant-loop-inv l = All (λ inv. holds_on inv l.flows.flows) (take l.inv-index l.invariants)
