use Rattle.std.proofs.Common.{List, ℕ, sym, subst, ap, ◌∙◌, arith}
use Rattle.std.proofs.Math.Seq.{take_all}
use Rattle.std.specs.Io.KnownBytes.{append_known}
use Rattle.edge_io.specs.inner.Calls.{joined}
use Rattle.edge_io.specs.Observable.{AppendsPrefixOf}
use Rattle.edge_io.proofs.PutLaws.{AppendsPrefixOf-after}
use Rattle.edge_io.proofs.Pieces.{joined_at, AppendsPrefixOf-all}
use Rattle.edge_io.proofs.put.put_pieces.Goals as goal

-- A fault stops within a piece, after those that are written.
pub returns-in_err-put_all-clause-prefix : goal.returns-in_err-put_all-clause-prefix
returns-in_err-put_all-clause-prefix g c =
    subst (λ (bytes : List ℕ). AppendsPrefixOf (g.O.Sink.held c.args.sink.now) (g.O.Sink.held c.put_all.new.sink) bytes)
    (sym (joined_at c.args.pieces.now c.loop-piece.piece-index _ c.loop-piece-test.true))
    (AppendsPrefixOf-after _ _ _ _ _ _ c.loop-piece.invariant.taken c.in_err-put_all.ensures.prefix)

-- After the last piece all of them are written.
pub returns-clause-prefix : goal.returns-clause-prefix
returns-clause-prefix g c =
    AppendsPrefixOf-all _ _ _ (c.loop-piece.invariant.taken
    ∙ ap (λ pieces. append_known (g.O.Sink.held c.args.sink.now) (joined pieces)) (take_all c.loop-piece.piece-index c.args.pieces.now (omega (arith, c.loop-piece-test.false))))
