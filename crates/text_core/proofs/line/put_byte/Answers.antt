use Rattle.std.proofs.Common.{◌≡◌, ◌<◌, length, arith}
use Rattle.text_core.proofs.LineLemmas.{byte_left, byte_put}
use Rattle.text_core.proofs.line.put_byte.Goals as goal

pub returns-then-at-line-clause-text : goal.returns-then-at-line-clause-text
returns-then-at-line-clause-text g c =
    let whole : length c.args.buffer.now ≡ g.row.N = c.told-buffer in
    byte_left g.row.N c.args.at c.args.byte c.args.buffer.now whole (omega (arith, whole, c.if-at-line.true))

pub returns-clause-text : goal.returns-clause-text
returns-clause-text g c =
    let whole : length c.args.buffer.now ≡ g.row.N = c.told-buffer in
    let there : c.args.at < g.row.N = omega (arith, whole, c.requires, c.if-at-line.false) in
    byte_put g.row.N c.args.at c.args.byte c.args.buffer.now whole there
