use Rattle.std.proofs.Common.{◌≡◌, map, take}
use Rattle.std.specs.Prelude.{All, slice_get, Some}
use Rattle.flow_set.specs.FlowSet.{with_flow}
use Rattle.explain_core.specs.Failing.{IsLeastFailing, IsMinimalFailing}
use Rattle.explain_core.proofs.reasons.reasons_of.Given as goal

-- The reasons are those of the numbers so far.
abbrev pub invariant-loop-number : goal.invariant-loop-number
invariant-loop-number g l = record {
  numbers : map (λ reason. reason.number) l.reasons.items ≡ take l.number-index l.numbers;
  minimal : All (λ reason. (inv : _) → slice_get l.invs reason.number ≡ Some inv → IsMinimalFailing (g.I.Invariant.holds_on inv) (with_flow l.set.flows l.f) reason.by.flows) l.reasons.items;
  least : All (λ reason. (inv : _) → slice_get l.invs reason.number ≡ Some inv → IsLeastFailing (g.I.Invariant.holds_on inv) (with_flow l.set.flows l.f) reason.by.flows) l.reasons.items;
}
