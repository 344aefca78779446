use Rattle.std.proofs.Common.{List, ℕ, sym, subst, ap, ◌∙◌, arith}
use Rattle.std.proofs.Math.Seq.{take_all}
use Rattle.std.specs.Io.KnownBytes.{append_known}
use Rattle.edge_io.specs.Observable.{AppendsPrefixOf}
use Rattle.edge_io.proofs.PutLaws.{AppendsPrefixOf-after}
use Rattle.edge_io.proofs.Pieces.{AppendsPrefixOf-all}
use Rattle.load_core.specs.Words.{lines_of}
use Rattle.load_core.proofs.LineLaws.{lines_at}
use Rattle.load_core.proofs.line.put_orders.Goals as goal

-- A fault stops within a line, after those that are written.
pub returns-in_err-put_all-clause-prefix : goal.returns-in_err-put_all-clause-prefix
returns-in_err-put_all-clause-prefix g c =
    subst (λ (bytes : List ℕ). AppendsPrefixOf (g.O.Sink.held c.args.sink.now) (g.O.Sink.held c.put_all.new.sink) bytes)
    (sym (lines_at c.args.orders.now c.loop-order.order-index _ c.line.result.now c.line.ensures c.loop-order-test.true))
    (AppendsPrefixOf-after _ _ _ _ _ _ c.loop-order.invariant.taken c.in_err-put_all.ensures.prefix)

-- After the last order all lines are written.
pub returns-clause-prefix : goal.returns-clause-prefix
returns-clause-prefix g c =
    AppendsPrefixOf-all _ _ _ (c.loop-order.invariant.taken
    ∙ ap (λ orders. append_known (g.O.Sink.held c.args.sink.now) (lines_of orders)) (take_all c.loop-order.order-index c.args.orders.now (omega (arith, c.loop-order-test.false))))
