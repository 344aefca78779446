use Rattle.std.proofs.Common.{◌+◌, arith, add-one}
use Rattle.std.proofs.Math.Seq.{drop-cons}
use Rattle.std.proofs.lemmas.List.{drop_all}
use Rattle.topos_top.proofs.EditLaws.{lines_next, no_lines_left}
use Rattle.topos_top.proofs.edit.push_summaries.Goals as goal

pub loop-place-preserved : goal.loop-place-preserved
loop-place-preserved c =
    lines_next (c.loop-place.place + 1) c.loop-place.text.items c.push_summary.new.text.items _ _ _ _
    (rw add-one (drop-cons c.args.summaries.now c.loop-place.place _ (omega (arith, c.loop-place-test.true))))
    c.in_ok-push_summary.ensures c.loop-place.invariant

pub returns : goal.returns
returns c = no_lines_left _ _ _ _ (drop_all c.loop-place.place c.args.summaries.now (omega (arith, c.loop-place-test.false))) c.loop-place.invariant
