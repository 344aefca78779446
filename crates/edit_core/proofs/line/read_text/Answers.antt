use Rattle.std.proofs.Common.{Some, refl, ap, sym, ◌∙◌}
use Rattle.edit_core.proofs.TextLemmas.{no_text, text_read}
use Rattle.edit_core.proofs.line.read_text.Goals as goal

pub returns-in_ok-from_str-in-Ok : goal.returns-in_ok-from_str-in-Ok
returns-in_ok-from_str-in-Ok c =
    text_read c.args.word.now c.in-Ok.ensures.cases.1 ∙ ap (λ w. Some w) (sym (c.in_ok-from_str-in-Ok.ensures.ok ∙ c.in-Ok.ensures.cases.0))

pub returns-in-Err : goal.returns-in-Err
returns-in-Err c = (no_text c.args.word.now c.in-Err.ensures.cases.0, refl)
