use Rattle.std.proofs.Common.{◌≡◌, ◌<◌, ◌^◌, ◌∙◌, length, ap, arith}
use Rattle.ipt_rules.specs.ChainTable.{rule_count}
use Rattle.ipt_rules.proofs.NextLemmas.{chain_few}
use Rattle.ipt_rules.proofs.RuleLemmas.{length-all_rules}
use Rattle.decide_core.proofs.ruleset_walk.RulesetWalk.count_in.Goals as goal

pub overflow_cast-result : goal.overflow_cast-result
overflow_cast-result c =
    let few = chain_few c.self.inside.rules.now c.args.chain in
    let same = ap length c.rules_in.ensures in
    let count : c.rules-count.result ≡ rule_count c.self.inside.rules.now = c.rules-count.ensures.count ∙ length-all_rules c.self.inside.rules.now in
    let small : c.rules-count.result < 2 ^ 32 = c.rules-count.type_inv in
    omega (arith, few, same, count, small)
