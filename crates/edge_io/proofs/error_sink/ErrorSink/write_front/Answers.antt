use Rattle.std.proofs.Common.{◌≡◌, ◌+◌, ◌-◌, sym, length-take, ◌∙◌, arith, ap, take, if◌then◌else◌}
use Rattle.edge_io.specs.TerminalText.{all_shown, escape_of, last_of}
use Rattle.edge_io.proofs.TerminalLaws.{code_shown, last_of_more}
use Rattle.edge_io.proofs.error_sink.ErrorSink.write_front.Goals as goal

-- A control code at the front is written as its escape.
pub returns-then-plain-eq0-clause-written : goal.returns-then-plain-eq0-clause-written
returns-then-plain-eq0-clause-written g c =
    let own = c.args.self.now in
    let code = c.in-Some.field-0.now in
    let is : (if own.is_terminal then all_shown own.last (take 1 c.args.piece.now) else take 1 c.args.piece.now) ≡ escape_of code =
    code_shown own.is_terminal own.last code c.args.piece.now (sym c.in-Some.ensures.value)
    (λ first rest whole. c.plain_len-plain.ensures.code first rest whole c.if-plain-eq0.true) in
    let written = rw c.escape.ensures at c.in_ok-write_all.ensures.bytes in
    rw is written

-- The last byte that was accepted.
pub returns-then-count-gt0-clause-last : goal.returns-then-count-gt0-clause-last
returns-then-count-gt0-clause-last g c =
    let own = c.args.self.now in
    let piece = c.args.piece.now in
    let count = c.in_ok-count.count in
    let more : (count - 1) + 1 ≡ count = omega (arith, c.if-count-gt0.true) in
    sym (last_of_more own.last piece (count - 1) 0 (omega (arith, c.if-count-gt0.true, c.in_ok-count.ensures.bound, length-take c.plain_len-plain.result piece))) ∙ ap (λ n. last_of own.last (take n piece)) more
