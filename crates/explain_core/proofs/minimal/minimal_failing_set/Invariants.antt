use Rattle.std.proofs.Common.{◌≡◌, length}
use Rattle.std.specs.Prelude.{IsTrue}
use Rattle.flow_set.specs.FlowSet.{has, with_flow}
use Rattle.explain_core.specs.inner.Transitions.{AreNarrowed}
use Rattle.explain_core.proofs.minimal.minimal_failing_set.Given as goal

-- The needed flows and the rest remain.
abbrev pub invariant-loop-rest : goal.invariant-loop-rest
invariant-loop-rest g l = record {
  needed_size : l.needed.size ≡ l.e.size;
  rest_size : l.rest.size ≡ l.e.size;
  narrowed : AreNarrowed (g.I.Invariant.holds_on l.inv) (with_flow l.e.flows l.fn.f) l.needed.flows l.rest.flows;
  with : IsTrue (has l.needed.flows l.fn.f);
}

abbrev pub decreases-loop-rest : goal.decreases-loop-rest
decreases-loop-rest g l = length l.rest.flows
