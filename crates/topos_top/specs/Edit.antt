-- `edit FILE EDITS`: the development of a network while its description is edited, and its final policy.
use Rattle.std.specs.Prelude.{◌≡◌, ℕ, ◌+◌, List, [], ◌∷◌, ◌++◌, Ok, Err, codes, decimal}
use Rattle.desc_core.specs.Description.{described_by_table}
use Rattle.edit_core.specs.Runs.{AreSummaries, after_edits}
use Rattle.edit_core.specs.declared.fault.EditWhy.{EditWhy}
use Rattle.edit_core.specs.declared.summary.Summary.{Summary}
use Rattle.edit_core.specs.Edit.{Edit}
use Rattle.net_core.specs.Network.{Network}
use Rattle.report_core.specs.PolicyReport.{IsPolicyReport}
use Rattle.report_core.specs.ReportPromises.{ReportsPolicy}
use Rattle.toml.specs.Data.{Members}
use Rattle.run_core.specs.Outcomes.{Outcome, Outcomes, says_why}
use Rattle.topos_top.specs.TextFault.{edit_fault_line}
use Rattle.run_core.specs.declared.status.Status.TheVariants.{BadText, Done}

-- The line of a summary, by the number of its edit from 1 (docs/TEXTS.md).
abbrev pub summary_line : ℕ → Summary → List ℕ
summary_line k s =
    decimal k
    ++ (codes " asked "
    ++ (decimal s.asked
    ++ (codes " permitted "
    ++ (decimal s.permitted ++ (codes " stateful " ++ (decimal s.stateful ++ (codes " failing " ++ (decimal s.failing ++ codes "\n"))))))))

-- The lines of the summaries, the first of which belongs to edit k.
abbrev pub summary_lines : ℕ → List Summary → List ℕ
summary_lines k [] = []
summary_lines k (s ∷ ss) = summary_line k s ++ summary_lines (k + 1) ss

-- The text lists the summaries, and then reports the network that this table describes.
pub record ReportsTable (Reports : Network → List ℕ → Type 0) (table : Members) (summaries : List Summary) (text : List ℕ) : Type 0 where
  pub network : Network
  pub described : described_by_table table ≡ Ok network
  pub report : List ℕ
  pub reports : Reports network report
  pub written : text ≡ summary_lines 1 summaries ++ report

-- No edit is refused. For the description after each edit, the text reports the number of asked, permitted and stateful flows and of
-- failing invariants; then it reports the network of the last table.
pub record ReportsEdits (Reports : Network → List ℕ → Type 0) (table : Members) (edits : List Edit) (text : List ℕ) : Type 0 where
  pub last : Members
  pub accepted : after_edits edits table ≡ Ok last
  pub summaries : List Summary
  pub told : AreSummaries edits table summaries
  pub says : ReportsTable Reports last summaries text

-- The line reports the first edit that is refused, on the table that the edits before it leave, and the reason.
pub record ReportsRefusal (table : Members) (edits : List Edit) (line : List ℕ) : Type 0 where
  pub number : ℕ
  pub why : EditWhy
  pub refused : after_edits edits table ≡ Err (number, why)
  pub told : line ≡ edit_fault_line number why

-- No edit is refused.
abbrev pub acceptance : Members → List Edit → Outcome
acceptance table edits = record {
  status = Done;
  when = (last : Members) × (after_edits edits table ≡ Ok last);
  is = ReportsEdits IsPolicyReport table edits;
  guarantees = ReportsEdits ReportsPolicy table edits;
}

-- The outcomes of edits: an edit is refused, or all are accepted.
abbrev pub edit_outcomes : Members → List Edit → Outcomes
edit_outcomes table edits = says_why BadText (Unit {0}) (ReportsRefusal table edits) ∷ (acceptance table edits ∷ [])
