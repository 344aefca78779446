use Rattle.std.proofs.Common.{◌≡◌, ◌-◌, sym, ◌∙◌, min, take, length, arith}
use Rattle.std.proofs.lemmas.List.{take_all}
use Rattle.text_core.proofs.LineLemmas.{piece_put}
use Rattle.text_core.proofs.line.put.Goals as goal

pub returns-then-piece-room-clause-text : goal.returns-then-piece-room-clause-text
returns-then-piece-room-clause-text g c =
    let piece = c.args.piece.now in
    let wide : length c.args.buffer.now ≡ g.row.N = c.told-buffer in
    let fits : length piece ≡ min (g.row.N - c.args.at) (length piece) = grind (arith, wide, c.if-piece-room.true) in
    let whole : c.copy_from_slice.new.self ≡ take (length piece) piece = c.copy_from_slice.ensures.after ∙ sym (take_all (length piece) piece (omega arith)) in
    piece_put g.row.N c.args.at (length piece) c.args.buffer.now piece c.copy_from_slice.new.self c.requires wide fits whole

pub returns-clause-text : goal.returns-clause-text
returns-clause-text g c =
    let piece = c.args.piece.now in
    let room = length c.args.buffer.now - c.args.at in
    let wide : length c.args.buffer.now ≡ g.row.N = c.told-buffer in
    let fits : room ≡ min (g.row.N - c.args.at) (length piece) = grind (arith, wide, c.if-piece-room.false) in
    piece_put g.row.N c.args.at room c.args.buffer.now piece c.copy_from_slice-2.new.self c.requires wide fits c.copy_from_slice-2.ensures.after
