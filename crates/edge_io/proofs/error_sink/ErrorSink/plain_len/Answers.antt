use Rattle.std.proofs.Common.{sym, ◌∙◌}
use Rattle.edge_io.proofs.TerminalLaws.{all_plain_more, last_of_more}
use Rattle.edge_io.proofs.error_sink.ErrorSink.plain_len.Goals as goal

-- The byte at `index` is no control code after those before it.
pub loop-index-preserved : goal.loop-index-preserved
loop-index-preserved g c =
    let piece = c.args.piece.now in
    let index = c.loop-index.index in
    record {
      plain = all_plain_more c.args.self.now.last piece index 0 c.loop-index-test.true c.loop-index.invariant.plain
          (rw (sym c.loop-index.invariant.last_is) (sym c.is_control.ensures ∙ c.if-is_control.false));
      last_is = sym (last_of_more c.args.self.now.last piece index 0 c.loop-index-test.true);
    }
