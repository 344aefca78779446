use Rattle.std.proofs.Common.{◌≤◌, List, ℕ, Some, ap, sym, ◌∙◌, length, drop, arith, length-append, length-drop}
use Rattle.std.proofs.lemmas.List.{take-append-le}
use Rattle.run_core.proofs.lines.write_front.Goals as goal

pub returns-clause-line : goal.returns-clause-line
returns-clause-line c =
    let written = c.write_line.new.buffer in
    let rest = drop 320 c.args.room.now in
    let fits : c.write_line.result ≤ length written = omega (arith, c.write_line.ensures.short, c.requires.fits, length-append written rest, length-drop 320 c.args.room.now) in
    c.write_line.ensures.line ∙ ap (λ (line : List ℕ). Some line) (sym (take-append-le c.write_line.result written rest fits))
