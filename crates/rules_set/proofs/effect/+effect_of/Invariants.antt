use Rattle.std.proofs.Common.{length}
use Rattle.rules_set.proofs.effect.+effect_of.Given as goal

abbrev pub decreases-effect_of : goal.decreases-effect_of
decreases-effect_of l = length l.rules.now
