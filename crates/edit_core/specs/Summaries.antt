-- The summary of a description after an edit, and the start of a session.
use Rattle.std.specs.Prelude.{◌≡◌, ℕ, List, length, Some, Result, Ok, Err}
use Rattle.desc_core.specs.Description.{described, described_by_table}
use Rattle.desc_core.specs.Document.{document}
use Rattle.desc_core.specs.declared.fault.DescFault.{DescFault}
use Rattle.desc_core.specs.declared.fault.DescFault.TheVariants as desc
use Rattle.edit_core.specs.declared.summary.Summary.{Summary}
use Rattle.net_core.specs.Network.{Network}
use Rattle.net_core.specs.Policies.{IsPolicyOf, Policy}
use Rattle.net_core.specs.FailingFlows.{AreFailing}
use Rattle.toml.specs.Data.{Members}

-- The numbers of flows that the network asks for, that its policy permits, and whose answers pass; and the number of its invariants that
-- fail on the requested flows.
pub record Summarizes (d : Network) (policy : Policy) (summary : Summary) : Type 0 where
  pub asked : summary.asked ≡ length d.asked.flows
  pub permitted : summary.permitted ≡ length policy.permitted.flows
  pub stateful : summary.stateful ≡ length policy.stateful.flows
  pub failing : AreFailing d.invariants d.asked.flows summary.failing

-- The summary of the network that a table describes, and of its policy.
abbrev pub IsSummary : Members → Summary → Type 0
IsSummary table summary = (d : Network) × (policy : Policy) × (described_by_table table ≡ Ok d) × IsPolicyOf d policy × Summarizes d policy summary

-- The bytes are the document of the table, and a description; or they are refused for this reason.
abbrev pub IsStarted : List ℕ → Result Members DescFault → Type 0
IsStarted bytes (Ok table) = (document bytes ≡ Some table) × ((d : Network) × (described bytes ≡ Ok d) × (described_by_table table ≡ Ok d))
IsStarted bytes (Err (desc.Refused refusal)) = described bytes ≡ Err refusal
IsStarted bytes (Err desc.Memory) = Unit {0}
