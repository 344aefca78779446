use Rattle.std.proofs.Common.{◌+◌, ◌-◌, take, arith}
use Rattle.run_core.specs.inner.Views.{rules_lines}
use Rattle.run_core.proofs.PutBlocks.{sofar_as, sofar_room, sofar_line, written_behind, cut_in_block}
use borrow.Rule.Slice.PartMut.{mid_len}
use Rattle.run_core.proofs.lines.put_lines.Goals as goal

pub returns-in_err-start-clause-prefix : goal.returns-in_err-start-clause-prefix
returns-in_err-start-clause-prefix g c =
    cut_in_block _ _ _ (rules_lines c.args.rules.now) c.loop-i.i (take c.loop-i.filled c.loop-i.block) c.loop-i.invariant.sofar c.in_err-start.ensures.prefix

pub loop-i-preserved : goal.loop-i-preserved
loop-i-preserved g c =
    let lines = rules_lines c.args.rules.now in
    let start = c.in_ok-start.start in
    let new = c.write_front.new.room in
    let room = sofar_room _ _ _ lines c.loop-i.i (take c.loop-i.filled c.loop-i.block) (take start c.loop-i.block) c.loop-i.invariant.sofar c.in_ok-start.ensures.left in
    let long = mid_len start 8512 c.loop-i.block (omega arith) in
    let stands = written_behind start (8512 - start) c.write_front.result c.loop-i.block new (omega (arith, c.in_ok-start.ensures.room)) (omega (arith, c.in_ok-start.ensures.room, c.write_front.ensures.short, long)) in
    record {
      sofar = sofar_as _ _ lines (c.loop-i.i + 1) _ _ stands (sofar_line _ _ lines c.loop-i.i (take start c.loop-i.block) (take c.write_front.result new) room c.write_front.ensures.line);
      fits = omega (arith, c.in_ok-start.ensures.room, c.write_front.ensures.short);
      faults_monotone = omega (arith, c.loop-i.invariant.faults_monotone, c.in_ok-start.ensures.faults_monotone);
    }

pub returns-clause-prefix : goal.returns-clause-prefix
returns-clause-prefix g c =
    cut_in_block _ _ _ (rules_lines c.args.rules.now) c.loop-i.i (take c.loop-i.filled c.loop-i.block) c.loop-i.invariant.sofar c.put_all.ensures.prefix
