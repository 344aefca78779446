use Rattle.std.proofs.Common.{◌≡◌, ◌++◌}
use Rattle.std.specs.List.{fold}
use Rattle.flow_set.specs.FlowSet.{with_flow}
use Rattle.explain_core.proofs.transitions.next_transition.Given as goal

-- The trial has the needed flows and the flows so far, and the invariant holds on them.
abbrev pub invariant-loop-flow : goal.invariant-loop-flow
invariant-loop-flow g l = record {
  walk : l.yielded ++ l.flow-iterator ≡ l.rest.flows;
  size : l.before.size ≡ l.rest.size;
  before : l.before.flows ≡ l.yielded;
  fits : g.I.Stepwise.fits l.inv l.trial;
  flows : (g.I.Tried.Trial.tried l.trial).flows ≡ fold with_flow l.needed.flows l.yielded;
  held : g.I.Invariant.holds_on l.inv (fold with_flow l.needed.flows l.yielded);
}
