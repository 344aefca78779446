use Rattle.std.proofs.Common.{◌≤◌, arith}
use Rattle.ipt_rules.specs.inner.Ranks.{row_of}
use Rattle.ipt_rules.proofs.LoopLemmas.{none_more, least_from, none_past}
use Rattle.ipt_rules.proofs.loops.first_cycle.Goals as goal

pub returns-then-branch-clause-least : goal.returns-then-branch-clause-least
returns-then-branch-clause-least c = least_from (row_of c.args.table.now) c.loop-chain.chain c.loop-chain.invariant

pub loop-chain-preserved : goal.loop-chain-preserved
loop-chain-preserved c =
    none_more (row_of c.args.table.now) c.loop-chain.chain c.in_ok-comes_back.field-0 c.loop-chain.invariant c.in_ok-comes_back.ensures c.if-branch.false

pub returns-clause-none : goal.returns-clause-none
returns-clause-none c = λ d walk.
    let high : c.loop-chain.chain ≤ d = least_from (row_of c.args.table.now) c.loop-chain.chain c.loop-chain.invariant d walk in
    none_past c.args.table.now d d (omega (arith, high, c.loop-chain-test.false, c.len-chain-end.ensures)) walk
