use Rattle.std.proofs.Common.{◌∙◌}
use Rattle.text_core.proofs.LineLaws.{cut_whole}
use Rattle.nft_text.proofs.line.write.Goals as goal

pub returns-clause-text : goal.returns-clause-text
returns-clause-text c = c.put.ensures.text ∙ cut_whole 256 c.args.piece.now c.requires
