use Rattle.std.proofs.Common.{◌≡◌, Err, arith, rules, tests}
use Rattle.text_core.specs.Lines.{lines}
use Rattle.text_core.proofs.SoFar.{nothing_read, one_more, all_read, all_counted, one_bad, count_within, longer, not_longer}
use Rattle.text_core.proofs.texts.read_counted_lines.Goals as goal

pub returns-then-bytes-limit-clause-refused : goal.returns-then-bytes-limit-clause-refused
returns-then-bytes-limit-clause-refused g c =
    longer g.R.LineReader.text c.args.bytes.now c.limit-limit.result c.limit-limit.ensures.limit c.if-bytes-limit.true

pub loop-line-init : goal.loop-line-init
loop-line-init g c = record {
  so_far = nothing_read g.R.LineReader.text (lines c.args.bytes.now) c.new-lines.result (g.R.LineReader.said c.args.start) c.new-lines.ensures c.requires.start;
  holds = c.requires.holds;
}

pub overflow_add-number : goal.overflow_add-number
overflow_add-number g c =
    let short = not_longer g.R.LineReader.text c.args.bytes.now c.limit-limit.result c.limit-limit.ensures.limit c.if-bytes-limit.false in
    let within = count_within g.R.LineReader.text c.args.bytes.now c.loop-line.lines c.next_line.new.self _ c.loop-line.number c.in-Some.line.now c.in-Some.ensures.next c.loop-line.invariant.so_far in
    omega (arith, short, within, c.limit-limit.ensures.small)

pub read_one-requires : goal.read_one-requires
read_one-requires g c = c.loop-line.invariant.holds

pub returns-in_err-reader-clause-refused : goal.returns-in_err-reader-clause-refused
returns-in_err-reader-clause-refused g c =
    let told : c.from_residual.result ≡ Err c.in_err-reader.field-0.0 = search (rules, tests) in
    rw told
    (one_bad g.R.LineReader.text c.args.bytes.now c.loop-line.lines c.next_line.new.self (g.R.LineReader.said c.loop-line.reader) c.loop-line.number c.in-Some.line.now c.in_err-reader.field-0.0
    (not_longer g.R.LineReader.text c.args.bytes.now c.limit-limit.result c.limit-limit.ensures.limit c.if-bytes-limit.false)
    c.in-Some.ensures.next c.loop-line.invariant.so_far c.in_err-reader.ensures.err)

pub loop-line-preserved : goal.loop-line-preserved
loop-line-preserved g c = record {
  so_far = one_more g.R.LineReader.text (lines c.args.bytes.now) c.loop-line.lines c.next_line.new.self (g.R.LineReader.said c.loop-line.reader) (g.R.LineReader.said c.in_ok-reader.reader) c.loop-line.number c.in-Some.line.now c.in-Some.ensures.next c.loop-line.invariant.so_far c.in_ok-reader.ensures.ok;
  holds = c.in_ok-reader.ensures.holds;
}

pub returns-clause-holds : goal.returns-clause-holds
returns-clause-holds g c = c.loop-line.invariant.holds

pub returns-clause-read : goal.returns-clause-read
returns-clause-read g c =
    all_read g.R.LineReader.text c.args.bytes.now c.loop-line.lines (g.R.LineReader.said c.loop-line.reader) c.loop-line.number
    (not_longer g.R.LineReader.text c.args.bytes.now c.limit-limit.result c.limit-limit.ensures.limit c.if-bytes-limit.false)
    c.in_default.ensures.next c.loop-line.invariant.so_far

pub returns-clause-counted : goal.returns-clause-counted
returns-clause-counted g c =
    all_counted g.R.LineReader.text c.args.bytes.now c.loop-line.lines (g.R.LineReader.said c.loop-line.reader) c.loop-line.number c.in_default.ensures.next c.loop-line.invariant.so_far
