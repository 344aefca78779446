use Rattle.std.proofs.Common.{◌∙◌, arith, length-drop}
use Rattle.std.proofs.Math.Seq.{take_all}
use Rattle.edge_io.proofs.Pieces.{took_more}
use Rattle.edge_io.proofs.put.put_all.Goals as goal

-- The write accepts the next bytes after those written.
pub loop-done-preserved : goal.loop-done-preserved
loop-done-preserved g c =
    let piece = c.args.piece.now in
    let done = c.loop-done.done in
    record {
      within = omega (arith, c.in-Ok.ensures.within, length-drop done piece);
      taken = took_more _ _ _ done c.in-Ok.count piece _ (take_all _ _ (omega (arith, length-drop done piece))) c.loop-done.invariant.taken c.in-Ok.ensures.took;
      faults_monotone = omega (arith, c.in-Ok.ensures.faults_monotone, c.loop-done.invariant.faults_monotone);
      no_fault = λ counts. counts _ _ _ _ c.in-Ok.ensures.gives ∙ c.loop-done.invariant.no_fault counts;
    }
