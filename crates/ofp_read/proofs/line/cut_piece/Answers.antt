use Rattle.std.proofs.Common.{sym, ◌∙◌}
use Rattle.ofp_read.proofs.CutLaws.{cut_found, cut_nowhere}
use Rattle.ofp_read.proofs.line.cut_piece.Goals as goal

pub returns-in-Some : goal.returns-in-Some
returns-in-Some c = cut_found c.args.text.now c.in-Some.at (sym c.place_of_separator.ensures ∙ c.in-Some.is)

pub returns-in-None : goal.returns-in-None
returns-in-None c = cut_nowhere c.args.text.now (sym c.place_of_separator.ensures ∙ c.in-None.is)
