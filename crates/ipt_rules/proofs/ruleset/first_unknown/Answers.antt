use Rattle.std.proofs.Common.{length, sym, ◌∙◌, arith}
use Rattle.ipt_rules.proofs.BuildLemmas.{unknown_here, unknown_later, rules_left}
use Rattle.ipt_rules.proofs.ruleset.first_unknown.Goals as goal

pub returns-in-Some : goal.returns-in-Some
returns-in-Some c =
    sym (unknown_here (length c.args.chains.now) c.loop-number.number c.args.chains.now c.index-chains-number.result c.rules.result.now c.in-Some.place c.loop-number-test.true c.index-chains-number.is c.rules.ensures c.in-Some.ensures.first) ∙ c.loop-number.invariant.same

pub loop-number-preserved : goal.loop-number-preserved
loop-number-preserved c = record {
  same = sym (unknown_later (length c.args.chains.now) c.loop-number.number c.args.chains.now c.index-chains-number.result c.rules.result.now c.loop-number-test.true c.index-chains-number.is c.rules.ensures c.in_default.ensures.first) ∙ c.loop-number.invariant.same;
  few = omega (arith, c.loop-number.invariant.few, rules_left c.args.chains.now c.loop-number.number c.index-chains-number.result c.loop-number-test.true c.index-chains-number.is);
}
