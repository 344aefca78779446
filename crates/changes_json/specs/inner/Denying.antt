-- The findings of single flows among those of every flow. Internal: callers use `Weakening`.
use Rattle.std.specs.Prelude.{◌≡◌, ℕ, ◌+◌, ◌*◌, ◌-◌, List, if◌then◌else◌, nat_lt}
use Rattle.std.specs.List.{Contains}
use Rattle.explain_core.specs.declared.finding.Finding.{Finding}
use Rattle.flow_set.specs.declared.flow.Flow.{Flow}

-- The numbers are those of a finding of the flow.
pub record HasFinding (found : List Finding) (f : Flow) (numbers : List ℕ) : Type 0 where
  pub finding : Finding
  pub listed : Contains found finding
  pub flow : finding.flow ≡ f
  pub numbers_are : finding.by.items ≡ numbers

-- The place of a flow among all flows between n hosts: each host has n - 1 flows, in the order of the other hosts.
abbrev pub place_of : ℕ → Flow → ℕ
place_of n f = f.from * (n - 1) + (if nat_lt f.to f.from then f.to else f.to - 1)
