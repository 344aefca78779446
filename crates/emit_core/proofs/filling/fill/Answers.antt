use Rattle.ipt_rules.specs.inner.RuleParts.{is_rule}
use Rattle.ipt_rules.proofs.WalkLemmas.{all_at}
use Rattle.emit_core.proofs.FillingLemmas.{filling_more}
use Rattle.emit_core.proofs.filling.fill.Goals as goal

pub rule-requires-clause-parts : goal.rule-requires-clause-parts
rule-requires-clause-parts c =
    all_at is_rule c.args.rules.now c.loop-rule.rule-index c.rule-item.result c.requires.parts c.loop-rule-test.true c.rule-item.is

pub loop-rule-preserved : goal.loop-rule-preserved
loop-rule-preserved c =
    filling_more c.args.chain c.args.rules.now c.args.chains.now c.loop-rule.chains c.rule.new.self c.loop-rule.rule-index c.rule-item.result
    c.loop-rule-test.true c.rule-item.is c.requires.there c.in_ok-rule.ensures.ok c.loop-rule.invariant
