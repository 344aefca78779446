-- The trial of a template that depends on paths.
use Rattle.std.specs.Prelude.{◌≡◌, ℕ}
use Rattle.flow_set.specs.inner.Steps.{UndoableFlows}
use Rattle.tmpl_reach.specs.declared.trial.Half.{Half}
use Rattle.tmpl_reach.specs.declared.trial.Half.TheVariants.{Reach, Join}

-- The common model of trials: the number of hosts and the flows, now and before the last step.
abbrev pub tried_half : Half → UndoableFlows
tried_half (Reach t) = t
tried_half (Join t) = t

-- The trial is one of n hosts, and stores the hosts that each host reaches.
pub record FitsReach (n : ℕ) (half : Half) : Type 0 where
  pub kind : half ≡ Reach (tried_half half)
  pub size : (tried_half half).size ≡ n

-- The trial is one of n hosts, and stores the hosts with which each host is joined.
pub record FitsJoin (n : ℕ) (half : Half) : Type 0 where
  pub kind : half ≡ Join (tried_half half)
  pub size : (tried_half half).size ≡ n
