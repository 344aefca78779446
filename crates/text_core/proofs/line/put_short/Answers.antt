use Rattle.std.proofs.Common.{◌≡◌, ◌+◌, ◌/◌, ◌%◌, ◌++◌, ◌∷◌, [], refl, append_assoc, arith, decimal}
use Rattle.std.proofs.lemmas.Fmt.{decimal_digit, decimal_step}
use Rattle.text_core.proofs.LineLaws.{cut_cut}
use Rattle.text_core.proofs.line.put_short.Goals as goal

pub returns-then-number-lt10-clause-text : goal.returns-then-number-lt10-clause-text
returns-then-number-lt10-clause-text g c =
    rw (c.put_byte.ensures.text, c.digit.ensures, decimal_digit c.args.number c.if-number-lt10.true) refl

pub returns-clause-text : goal.returns-clause-text
returns-clause-text g c =
    let whole : decimal c.args.number ≡ decimal (c.args.number / 10) ++ (48 + c.args.number % 10) ∷ [] =
    decimal_step c.args.number c.if-number-lt10.false (omega arith) in
    rw (whole, c.put_byte-2.ensures.text, c.put_pair-front.ensures.text, c.digit-2.ensures) (simp (cut_cut, append_assoc))
