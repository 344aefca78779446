-- Trials of the invariants of a network, for the private steps of a report.
use Rattle.std.specs.Prelude.{List}
use Rattle.flow_set.specs.declared.flow.Flow.{Flow}
use Rattle.inv_any.specs.inner.AnyTrials.{FitsAny, tried_of}
use Rattle.inv_any.specs.declared.any_trial.AnyTrial.{AnyTrial}
use Rattle.net_core.specs.Network.{Network}
use Rattle.permit_core.specs.inner.Trials.{AreTried}

-- Each invariant of the network has a trial, with these flows.
abbrev pub AreTriedOn : Network → List Flow → List AnyTrial → Type 0
AreTriedOn d flows trials =
    AreTried (λ inv trial. FitsAny inv trial.case) (λ trial. tried_of trial.case) d.invariants trials flows
