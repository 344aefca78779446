use Rattle.ipt_rules.proofs.NextLemmas.{ends_more}
use Rattle.ipt_rules.proofs.next.all_ends.Goals as goal

pub loop-rule-preserved : goal.loop-rule-preserved
loop-rule-preserved c =
    ends_more c.args.rules.now c.loop-rule.all.items c.push.new.self.items c.loop-rule.rule-index c.rule-item.result c.ends_of.result
    c.loop-rule-test.true c.rule-item.is c.loop-rule.invariant c.ends_of.ensures c.in_ok-push.ensures.items
