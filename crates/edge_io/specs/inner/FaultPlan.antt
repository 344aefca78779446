-- Planned faults: the calls of an object are numbered from 1, and the calls with certain numbers fail.
use Rattle.std.specs.Prelude.{ℕ, ◌==◌, Bool, if◌then◌else◌, List}
use Rattle.std.specs.List.{list_any}
use Rattle.edge_io.specs.Counts.{more}

pub record Plan : Type 0 where
  pub fails : List ℕ
  pub calls : ℕ
  pub faults : ℕ

-- A plan before the first call.
abbrev pub fresh : List ℕ → Plan
fresh fails = record { fails = fails; calls = 0; faults = 0 }

-- The next call fails by its number.
abbrev pub fails_next : Plan → Bool
fails_next plan = list_any (λ number. number == more plan.calls 1) plan.fails

-- The plan after one more call.
abbrev pub counted : Plan → Plan
counted plan = record plan { calls = more plan.calls 1 }

-- The plan after one more fault.
abbrev pub with_fault : Plan → Plan
with_fault plan = record plan { faults = more plan.faults 1 }

-- The plan after one more call, with a fault if it fails.
abbrev pub after_call : Plan → Plan
after_call plan = if fails_next plan then with_fault (counted plan) else counted plan
