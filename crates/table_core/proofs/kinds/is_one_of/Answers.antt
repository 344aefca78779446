use Rattle.std.proofs.Common.{◌∙◌}
use Rattle.table_core.proofs.Views.{among_now}
use Rattle.table_core.proofs.kinds.is_one_of.Goals as goal

pub returns : goal.returns
returns c = c.is_among.ensures ∙ among_now c.args.word.now c.args.words.now
