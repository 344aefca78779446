use Rattle.std.proofs.Common.{◌∷◌, Some, sym, subst}
use Rattle.ofp_rules.specs.declared.entry.Frame.TheVariants.{Ipv4}
use Rattle.ofp_rules.specs.Semantics.{HasVerdict, PassesEntries}
use Rattle.pkt_core.specs.declared.event.Event.{Event}
use Rattle.pkt_core.specs.Tracking.{Runs, no_connections}
use Rattle.report_core.proofs.Steps.{seen_first}
use Rattle.report_core.proofs.run.table_answer.Goals as goal

pub returns-in-Seen : goal.returns-in-Seen
returns-in-Seen c = λ events answers run.
    let entries = c.args.table.now in
    let packet = c.in-Seen.packet in
    let has = subst (HasVerdict entries (Ipv4 packet)) c.is_forward.ensures c.verdict.ensures in
    subst (λ (event : Event). Runs (PassesEntries entries) no_connections (event ∷ events) (Some c.is_forward.result ∷ answers)) (sym c.in-Seen.is)
    (seen_first entries packet c.is_forward.result has events answers run)
