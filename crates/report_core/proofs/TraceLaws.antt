-- If a filter has at most one result for each packet, a run has one result at each index, and so one text. The set of packets is a
-- parameter: chains have one result for all packets, flow tables for those whose numbers fit a header.
use Rattle.std.proofs.Common.{◌≡◌, ℕ, zero, suc, Bool, true, false, List, [], ◌∷◌, Option, Some, None, refl, ap, sym, subst, ◌∙◌}
use Rattle.host_net.specs.declared.packet.Packet.{Packet}
use Rattle.host_net.specs.declared.packet.CtState.{CtState}
use Rattle.host_net.specs.Packet.{IsPacket}
use Rattle.host_net.specs.Verdict.{verdict_if}
use Rattle.ipt_rules.specs.Chain.{Chain}
use Rattle.ipt_rules.specs.Semantics.{PassesChains}
use Rattle.ipt_rules.proofs.MeaningLaws.{verdict_once}
use Rattle.ofp_rules.specs.declared.entry.Entry.{Entry}
use Rattle.ofp_rules.specs.declared.entry.Frame.TheVariants.{Ipv4}
use Rattle.ofp_rules.specs.inner.Build.{IsTable}
use Rattle.ofp_rules.specs.Semantics.{PassesEntries}
use Rattle.pkt_core.specs.declared.event.Event.{Event}
use Rattle.pkt_core.specs.declared.event.Event.TheVariants.{Seen, Forget}
use Rattle.pkt_core.specs.inner.FirewallFor.{AllKnown}
use Rattle.pkt_core.specs.Firewall.{Filter}
use Rattle.pkt_core.specs.Tracking.{ConnectionTable, Runs, after_seen, after_forget, no_connections}
use Rattle.report_core.specs.Trace.{IsTrace, ReportsRun, answer_lines}

-- A known packet in a state has at most one result.
abbrev pub AnswersOnce : (Packet → Type 0) → Filter → Type 0
AnswersOnce Known filter = (state : CtState) (p : Packet) (a b : Bool) → Known p → filter state p a → filter state p b → a ≡ b

abbrev pub AnyPacket : Packet → Type 0
AnyPacket p = Unit {0}

pub any_known : (events : List Event) → AllKnown AnyPacket events
any_known events k p seen = tt

same_if : (a b : Bool) → verdict_if a ≡ verdict_if b → a ≡ b
same_if true true h = refl
same_if false false h = refl
same_if true false h = cc
same_if false true h = cc

pub chains_answer_once : (chains : List Chain) → AnswersOnce AnyPacket (PassesChains chains)
chains_answer_once chains state p a b known first second = same_if a b (verdict_once first second)

pub table_answers_once : (entries : List Entry) → IsTable entries → AnswersOnce IsPacket (PassesEntries entries)
table_answers_once entries table state p a b known first second =
    let one = table.one_verdict (Ipv4 p) known in
    same_if a b (one.only (verdict_if a) first ∙ sym (one.only (verdict_if b) second))

known_later : (Known : Packet → Type 0) (event : Event) (events : List Event) → AllKnown Known (event ∷ events) → AllKnown Known events
known_later Known event events known k p seen = known (suc k) p seen

module _ (Known : Packet → Type 0) (filter : Filter) (once : AnswersOnce Known filter) where
  pub runs_once : (kept : ConnectionTable) (events : List Event) → AllKnown Known events → (answers others : List (Option Bool))
      → Runs filter kept events answers → Runs filter kept events others → answers ≡ others
  runs_once kept [] known [] [] run other = refl
  runs_once kept [] known [] (b ∷ others) run other = absurd other
  runs_once kept [] known (a ∷ answers) others run other = absurd run
  runs_once kept (Seen p ∷ events) known (Some a ∷ answers) (Some b ∷ others) run other =
      let same : a ≡ b = once _ p a b (known zero p refl) run.0 other.0 in
      let rest : answers ≡ others = runs_once (after_seen kept p b) events (known_later Known (Seen p) events known) answers others
      (subst (λ (passes : Bool). Runs filter (after_seen kept p passes) events answers) same run.1) other.1 in
      cc (same, rest)
  runs_once kept (Forget p ∷ events) known (None ∷ answers) (None ∷ others) run other =
      ap (λ (rest : List (Option Bool)). None ∷ rest)
      (runs_once (after_forget kept p) events (known_later Known (Forget p) events known) answers others run other)
  runs_once kept (Seen p ∷ events) known [] others run other = absurd run
  runs_once kept (Seen p ∷ events) known (None ∷ answers) others run other = absurd run
  runs_once kept (Seen p ∷ events) known (Some a ∷ answers) [] run other = absurd other
  runs_once kept (Seen p ∷ events) known (Some a ∷ answers) (None ∷ others) run other = absurd other
  runs_once kept (Forget p ∷ events) known [] others run other = absurd run
  runs_once kept (Forget p ∷ events) known (Some a ∷ answers) others run other = absurd run
  runs_once kept (Forget p ∷ events) known (None ∷ answers) [] run other = absurd other
  runs_once kept (Forget p ∷ events) known (None ∷ answers) (Some b ∷ others) run other = absurd other

  -- The text is unique.
  pub trace_is_one : (events : List Event) → AllKnown Known events → (a b : List ℕ) → IsTrace filter events a
      → IsTrace filter events b → a ≡ b
  trace_is_one events known a b p q =
      p.written ∙ ap answer_lines (runs_once no_connections events known p.results q.results p.run q.run) ∙ sym q.written

  -- So it reports the only run.
  pub reports_run : (events : List Event) → AllKnown Known events → (text : List ℕ) → IsTrace filter events text → ReportsRun filter events text
  reports_run events known text is = record {
    is = is;
    one = λ answers run. runs_once no_connections events known answers is.results run is.run;
  }
