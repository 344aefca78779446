-- The meaning of an invariant after the reset of a host, and the default attributes, as the code states them.
use Rattle.std.specs.List.{range_with_len}
use Rattle.std.specs.Prelude.{ℕ, List, slice_set, length, map}
use Rattle.flow_set.specs.declared.flow.Flow.{Flow}
use Rattle.flow_set.specs.HostSet.{HostNumbers}
use Rattle.tmpl_reach.specs.Dependability.{IsDependable}
use Rattle.tmpl_reach.specs.NoReach.{others, ReachesNoDenied}
use Rattle.tmpl_reach.specs.NonInterference.{IsNonInterfering}
use Rattle.tmpl_reach.specs.declared.non_interference.Interference.{Interference}
use Rattle.tmpl_reach.specs.declared.non_interference.Interference.TheVariants.{Interfering}

-- The limit of one host is 0.
abbrev pub IsDependableAfterReset : List ℕ → ℕ → List Flow → Type 0
IsDependableAfterReset limits host = IsDependable (slice_set limits host 0)

-- One host is interfering.
abbrev pub IsNonInterferingAfterReset : List Interference → ℕ → List Flow → Type 0
IsNonInterferingAfterReset hosts host = IsNonInterfering (slice_set hosts host Interfering)

-- One host denies all others.
abbrev pub ReachesNoDeniedAfterReset : List HostNumbers → ℕ → List Flow → Type 0
ReachesNoDeniedAfterReset denied host = ReachesNoDenied (slice_set denied host (others (length denied) host))

-- Each of n hosts denies all others.
abbrev pub all_others : ℕ → List HostNumbers
all_others n = map (others n) (range_with_len 0 n)
