use Rattle.std.proofs.Common.{◌+◌, arith, add-one}
use Rattle.std.proofs.Math.Seq.{drop-cons}
use Rattle.std.proofs.lemmas.List.{drop_all}
use Rattle.ipt_rules.specs.Semantics.{PassesChains}
use Rattle.pkt_core.specs.inner.ConnectionTable.{kept_in}
use Rattle.report_core.proofs.Steps.{leaves_next, leaves_none}
use Rattle.report_core.proofs.run.trace_indexed.Goals as goal

pub loop-place-preserved : goal.loop-place-preserved
loop-place-preserved c =
    leaves_next (PassesChains c.args.indexed.now) c.args.events.now (kept_in c.loop-place.track) (kept_in c.answer.new.track) _ _ _ (c.loop-place.place + 1) c.in_ok-answer.answer
    c.loop-place.text.items c.push_answer.new.text.items
    (rw add-one (drop-cons c.args.events.now c.loop-place.place _ (omega (arith, c.loop-place-test.true))))
    c.in_ok-answer.ensures c.in_ok-push_answer.ensures c.loop-place.invariant

pub returns : goal.returns
returns c =
    leaves_none (PassesChains c.args.indexed.now) c.args.events.now (kept_in c.loop-place.track) _ (c.loop-place.place + 1) c.loop-place.text.items
    (drop_all c.loop-place.place c.args.events.now (omega (arith, c.loop-place-test.false))) c.loop-place.invariant
