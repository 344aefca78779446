use Rattle.text_core.proofs.line.+put_long.Given as goal

abbrev pub decreases-put_long : goal.decreases-put_long
decreases-put_long g l = l.number
