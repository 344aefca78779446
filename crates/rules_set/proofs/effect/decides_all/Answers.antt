use Rattle.rules_set.proofs.EffectLaws.{all_decided}
use Rattle.rules_set.proofs.effect.decides_all.Goals as goal

pub returns-clause-all : goal.returns-clause-all
returns-clause-all c = λ yes.
    all_decided c.args.diagrams.now c.combine.new.self c.combine-2.new.self c.combine-3.new.self c.args.traversal.now.within c.args.traversal.now.area
    c.in_ok-verdicts.verdicts c.in_ok-decided.decided c.in_ok-left.left c.args.effect c.requires.area c.requires.sets c.in_ok-verdicts.ensures.keeps
    c.in_ok-decided.ensures.keeps c.in_ok-verdicts.ensures.set c.in_ok-decided.ensures.set c.in_ok-left.ensures.set (c.is_empty.ensures yes)
