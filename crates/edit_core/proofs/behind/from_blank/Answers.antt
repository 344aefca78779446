use Rattle.std.proofs.Common.{sym, ◌∙◌}
use Rattle.text_core.specs.Lines.{is_blank}
use Rattle.edit_core.proofs.BehindLaws.{from_nowhere}
use Rattle.edit_core.proofs.behind.from_blank.Goals as goal

pub returns-in-None : goal.returns-in-None
returns-in-None c = sym (from_nowhere is_blank c.args.text.now (sym c.in-None.is ∙ c.place_of_blank.ensures))
