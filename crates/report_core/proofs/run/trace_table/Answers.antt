use Rattle.std.proofs.Common.{◌+◌, arith, add-one}
use Rattle.std.proofs.Math.Seq.{drop-cons}
use Rattle.std.proofs.lemmas.List.{drop_all}
use Rattle.ofp_rules.specs.Semantics.{PassesEntries}
use Rattle.pkt_core.specs.Tracking.{no_connections}
use Rattle.report_core.proofs.Steps.{leaves_next, leaves_none}
use Rattle.report_core.proofs.run.trace_table.Goals as goal

pub loop-place-preserved : goal.loop-place-preserved
loop-place-preserved c =
    leaves_next (PassesEntries c.args.table.now) c.args.events.now no_connections no_connections _ _ _ (c.loop-place.place + 1) c.table_answer.result
    c.loop-place.text.items c.push_answer.new.text.items
    (rw add-one (drop-cons c.args.events.now c.loop-place.place _ (omega (arith, c.loop-place-test.true))))
    c.table_answer.ensures c.in_ok-push_answer.ensures c.loop-place.invariant

pub returns : goal.returns
returns c =
    leaves_none (PassesEntries c.args.table.now) c.args.events.now no_connections _ (c.loop-place.place + 1) c.loop-place.text.items
    (drop_all c.loop-place.place c.args.events.now (omega (arith, c.loop-place-test.false))) c.loop-place.invariant
