use Rattle.std.proofs.Common.{◌≡◌, ◌+◌, ◌/◌, ◌%◌, ◌++◌, ◌∷◌, [], ◌∙◌, ap, refl, arith, append_assoc, decimal, List, ℕ}
use Rattle.std.proofs.lemmas.Fmt.{decimal_digit, decimal_step}
use Rattle.text_core.proofs.LineLaws.{cut_cut}
use Rattle.text_core.proofs.line.put_pair.Goals as goal

pub returns-then-number-lt10-clause-text : goal.returns-then-number-lt10-clause-text
returns-then-number-lt10-clause-text g c =
    rw (c.put_byte.ensures.text, c.digit.ensures, decimal_digit c.args.number c.if-number-lt10.true) refl

pub returns-clause-text : goal.returns-clause-text
returns-clause-text g c =
    let n = c.args.number in
    let whole : decimal n ≡ ((48 + n / 10) ∷ []) ++ (48 + n % 10) ∷ [] =
    decimal_step n c.if-number-lt10.false (omega arith)
    ∙ ap (λ (ds : List ℕ). ds ++ (48 + n % 10) ∷ []) (decimal_digit (n / 10) (omega (arith, c.requires.small))) in
    rw (whole, c.put_byte-2.ensures.text, c.put_byte-front.ensures.text, c.digit-2.ensures, c.digit-3.ensures) (simp (cut_cut, append_assoc))
