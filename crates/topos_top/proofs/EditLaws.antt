-- The result of edits is unique, their two outcomes are mutually exclusive, and the sets of a session are its policy.
use Rattle.std.proofs.Common.{◌≡◌, ℕ, ◌+◌, List, [], ◌∷◌, ◌++◌, Ok, Err, inl, false, refl, sym, subst, ◌∙◌, ap, append_assoc, append-nil}
use Rattle.desc_core.proofs.NetworkLaws.{IsNetwork-table}
use Rattle.desc_core.specs.Description.{described_by_table}
use Rattle.edit_core.specs.Runs.{after_edits}
use Rattle.edit_core.specs.inner.Kept.{IsKept}
use Rattle.edit_core.specs.inner.Summaries.{HasPolicy}
use Rattle.edit_core.proofs.SummaryLaws.{summaries_are_one}
use Rattle.edit_core.specs.declared.fault.EditWhy.{EditWhy}
use Rattle.edit_core.specs.declared.summary.Summary.{Summary}
use Rattle.edit_core.specs.Edit.{Edit}
use Rattle.flow_set.specs.FlowSet.{SetOfFlows}
use Rattle.net_core.specs.Network.{Network}
use Rattle.net_core.specs.Policies.{IsPolicyOf, Policy}
use Rattle.net_core.proofs.PolicyLaws.{policy_is_one}
use Rattle.report_core.specs.PolicyReport.{IsPolicyReport}
use Rattle.report_core.proofs.ReportLaws.{policy_report_is_one}
use Rattle.report_core.specs.ReportPromises.{ReportsPolicy}
use Rattle.report_core.proofs.ReportPromisesLaws.{reports_policy}
use Rattle.toml.specs.Data.{Members}
use Rattle.topos_top.specs.Edit.{ReportsEdits, ReportsRefusal, ReportsTable, edit_outcomes, summary_line, summary_lines}
use Rattle.run_core.specs.Outcomes.{Answers}
use Rattle.run_core.specs.Reply.{Reply, error}
use Rattle.topos_top.specs.TextFault.{edit_fault_line}
use Rattle.run_core.specs.declared.status.Status.TheVariants.{BadText}

-- ---- of one table

says_once : (table : Members) (summaries : List Summary) (a b : List ℕ) → ReportsTable IsPolicyReport table summaries a → ReportsTable IsPolicyReport table summaries b → a ≡ b
says_once table summaries a b p q =
    let here = p.described in
    let there = q.described in
    let network : q.network ≡ p.network = cc (here, there) in
    let report = policy_report_is_one p.network p.report q.report p.reports (subst (λ (d : Network). IsPolicyReport d q.report) network q.reports) in
    p.written ∙ ap (λ (text : List ℕ). summary_lines 1 summaries ++ text) report ∙ sym q.written

reports_table : (table : Members) (summaries : List Summary) (text : List ℕ) → ReportsTable IsPolicyReport table summaries text → ReportsTable ReportsPolicy table summaries text
reports_table table summaries text says = record {
  network = says.network;
  described = says.described;
  report = says.report;
  reports = reports_policy says.network says.report (IsNetwork-table table says.network says.described) says.reports;
  written = says.written;
}

-- ---- of a session

policy_kept : (table : Members) (d other : Network) (policy : Policy) → described_by_table table ≡ Ok d → IsKept table other policy → IsPolicyOf d policy
policy_kept table d other policy described kept =
    let here = kept.described in
    let same : other ≡ d = cc (here, described) in
    subst (λ (n : Network). IsPolicyOf n policy) same kept.is_policy

-- The two sets of a session are the policy of the network that its table describes.
pub sets_are_policy : (table : Members) (d : Network) (permitted stateful : SetOfFlows) → described_by_table table ≡ Ok d
    → HasPolicy table (λ policy. permitted ≡ policy.permitted) → HasPolicy table (λ policy. stateful ≡ policy.stateful)
    → IsPolicyOf d (record { permitted = permitted; stateful = stateful })
sets_are_policy table d permitted stateful described has other =
    let policy = has.1 in
    let is_policy = policy_kept table d has.0 policy described has.2 in
    let one : other.1 ≡ policy = policy_is_one d other.1 policy (policy_kept table d other.0 other.1 described other.2) is_policy in
    let same : stateful ≡ policy.stateful = other.3 ∙ ap (λ (p : Policy). p.stateful) one in
    rw (has.3, same) is_policy

-- ---- of edits

module _ (table : Members) (edits : List Edit) where
  pub line_is_one : (a b : List ℕ) → ReportsRefusal table edits a → ReportsRefusal table edits b → a ≡ b
  line_is_one a b p q =
      let here = p.refused in
      let there = q.refused in
      let same : ◌≡◌ {A = ℕ × EditWhy} (p.number, p.why) (q.number, q.why) = cc (here, there) in
      p.told ∙ ap (λ (told : ℕ × EditWhy). edit_fault_line told.0 told.1) same ∙ sym q.told

  pub text_is_one : (a b : List ℕ) → ReportsEdits IsPolicyReport table edits a → ReportsEdits IsPolicyReport table edits b → a ≡ b
  text_is_one a b p q =
      let here = p.accepted in
      let there = q.accepted in
      let last : q.last ≡ p.last = cc (here, there) in
      let told = summaries_are_one edits table q.summaries p.summaries q.told p.told in
      says_once p.last p.summaries a b p.says
      (subst (λ (ss : List Summary). ReportsTable IsPolicyReport p.last ss b) told (subst (λ (t : Members). ReportsTable IsPolicyReport t q.summaries b) last q.says))

  pub reports_edits : (text : List ℕ) → ReportsEdits IsPolicyReport table edits text → ReportsEdits ReportsPolicy table edits text
  reports_edits text says = record {
    last = says.last;
    accepted = says.accepted;
    summaries = says.summaries;
    told = says.told;
    says = reports_table says.last says.summaries text says.says;
  }

  pub never_both : (line : List ℕ) → ReportsRefusal table edits line → (last : Members) × (after_edits edits table ≡ Ok last) → ⊥
  never_both line says accepted =
      let why = says.refused in
      let last = accepted.1 in
      cc (why, last)

  -- The reply of the code to a refused edit.
  pub ends_refused : (reply : Reply) (line : ℕ) (why : EditWhy) → after_edits edits table ≡ Err (line, why)
      → reply ≡ error BadText (edit_fault_line line why) → Answers false (edit_outcomes table edits) reply
  ends_refused reply line why refused is =
      let says : ReportsRefusal table edits (edit_fault_line line why) = record { number = line; why = why; refused = refused; told = refl } in
      subst (λ (r : Reply). Answers false (edit_outcomes table edits) r) (sym is) (refl, inl (refl, (tt, edit_fault_line line why, says), says))

-- ---- lines, in sequence

pub lines_next : (k : ℕ) (old new whole : List ℕ) (s : Summary) (ss rest : List Summary) → ss ≡ s ∷ rest → new ≡ old ++ summary_line k s
    → old ++ summary_lines k ss ≡ whole → new ++ summary_lines (k + 1) rest ≡ whole
lines_next k old new whole s ss rest here pushed so_far =
    ap (λ (text : List ℕ). text ++ summary_lines (k + 1) rest) pushed
    ∙ append_assoc old (summary_line k s) (summary_lines (k + 1) rest)
    ∙ ap (λ (xs : List Summary). old ++ summary_lines k xs) (sym here)
    ∙ so_far

pub no_lines_left : (k : ℕ) (text whole : List ℕ) (left : List Summary) → left ≡ [] → text ++ summary_lines k left ≡ whole → text ≡ whole
no_lines_left k text whole left none so_far =
    sym (append-nil text) ∙ ap (λ (xs : List Summary). text ++ summary_lines k xs) (sym none) ∙ so_far
