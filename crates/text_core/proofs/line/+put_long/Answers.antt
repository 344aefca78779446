use Rattle.std.proofs.Common.{◌≡◌, ◌+◌, ◌/◌, ◌%◌, ◌++◌, ◌∷◌, [], append_assoc, arith, decimal}
use Rattle.std.proofs.lemmas.Fmt.{decimal_step}
use Rattle.text_core.proofs.LineLaws.{cut_cut}
use Rattle.text_core.proofs.line.+put_long.Goals as goal

pub returns-clause-text : goal.returns-clause-text
returns-clause-text g t c =
    let whole : decimal c.args.number ≡ decimal (c.args.number / 10) ++ (48 + c.args.number % 10) ∷ [] =
    decimal_step c.args.number (omega (arith, c.if-number-lt1000.false)) (omega arith) in
    rw (whole, c.put_byte.ensures.text, c.put_long-front.ensures.text, c.digit.ensures) (simp (cut_cut, append_assoc))
