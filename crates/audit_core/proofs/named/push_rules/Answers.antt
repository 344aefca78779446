use Rattle.ipt_rules.specs.Rules.{all_rules}
use Rattle.audit_core.specs.Parts.{rule_parts}
use Rattle.audit_core.proofs.NamedLemmas.{listed_more, named_step, take_more}
use Rattle.audit_core.proofs.named.push_rules.Goals as goal

pub loop-k-preserved : goal.loop-k-preserved
loop-k-preserved c =
    named_step _ _ _ c.args.found.now c.loop-k.found c.push_rule.new.found c.loop-k.invariant c.in_ok-push_rule.ensures
    (listed_more rule_parts (all_rules c.args.rules.now) c.loop-k.k c.rule_at.result (take_more (all_rules c.args.rules.now) c.loop-k.k c.rule_at.result c.rule_at.ensures))
