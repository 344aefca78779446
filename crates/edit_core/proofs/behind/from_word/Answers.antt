use Rattle.std.proofs.Common.{not, sym, ◌∙◌}
use Rattle.text_core.specs.Lines.{is_blank}
use Rattle.edit_core.proofs.BehindLaws.{from_nowhere}
use Rattle.edit_core.proofs.behind.from_word.Goals as goal

pub returns-in-None : goal.returns-in-None
returns-in-None c = sym (from_nowhere (λ b. not (is_blank b)) c.args.line.now (sym c.in-None.is ∙ c.place_of_word.ensures))
