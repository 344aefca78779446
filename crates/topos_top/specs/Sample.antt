-- `sample N`: the sizes of the policy, the rules and the offending sets of the sample of N hosts, and the packets that its rules forward.
use Rattle.std.specs.Prelude.{ℕ}
use Rattle.sample_core.specs.Sample.{IsSample}
use Rattle.sample_core.specs.SamplePromises.{ReportsSample}
use Rattle.run_core.specs.Outcomes.{Outcomes, writes}

-- The report of the network that the table of the sample describes, and of its packets.
abbrev pub sample_outcomes : (hosts : ℕ) → Outcomes
sample_outcomes hosts = writes (IsSample hosts) (ReportsSample hosts)
