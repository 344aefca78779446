-- The trial of an invariant of any template.
use Rattle.std.specs.Prelude.{◌≡◌}
use Rattle.flow_set.specs.inner.Steps.{UndoableFlows}
use Rattle.inv_any.specs.Templates.{meaning_of}
use Rattle.inv_any.specs.declared.any_inv.AnyInv.{AnyInv}
use Rattle.inv_any.specs.declared.any_inv.AnyInv.TheVariants as inv
use Rattle.inv_any.specs.declared.any_trial.Case.{Case}
use Rattle.inv_any.specs.declared.any_trial.Case.TheVariants as trial
use Rattle.tmpl_reach.specs.declared.trial.Half.TheVariants.{Reach, Join}
use Rattle.tmpl_reach.specs.inner.Trials.{tried_half}

-- The common model of trials, for each kind.
abbrev pub tried_of : Case → UndoableFlows
tried_of (trial.Edge t) = t
tried_of (trial.Walk t) = tried_half t.half

-- The trial with these flows of the kind that the invariant's template uses: of the templates on walks, the half of the closure; of all
-- others, the flows alone.
abbrev pub trial_like : AnyInv → UndoableFlows → Case
trial_like (inv.Dependability hosts) t = trial.Walk (record { half = Reach t })
trial_like (inv.NonInterference hosts) t = trial.Walk (record { half = Join t })
trial_like (inv.NoReach hosts) t = trial.Walk (record { half = Reach t })
trial_like any t = trial.Edge t

-- A trial belongs to an invariant if it is of the kind that the invariant's template uses, and has its size.
pub record FitsAny (any : AnyInv) (case : Case) : Type 0 where
  pub like : case ≡ trial_like any (tried_of case)
  pub size : (tried_of case).size ≡ (meaning_of any).size
