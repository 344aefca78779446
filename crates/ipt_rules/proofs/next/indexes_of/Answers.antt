use Rattle.std.proofs.Common.{ap, length, length-append, arith}
use Rattle.ipt_rules.proofs.NextLemmas.{indexes_more, rules_few}
use Rattle.ipt_rules.proofs.next.indexes_of.Goals as goal

pub index_of-requires : goal.index_of-requires
index_of-requires c =
    let few = rules_few c.args.chains.now c.loop-chain.chain-index c.chain-item.result c.loop-chain-test.true c.chain-item.is in
    let same = ap length c.rules.ensures in
    omega (arith, few, same, c.requires)

pub loop-chain-preserved : goal.loop-chain-preserved
loop-chain-preserved c =
    let more = ap length c.in_ok-push.ensures.items in
    let counted = c.loop-chain.invariant.counted in
    record {
      counted = omega (arith, simp length-append at more, counted);
      each = indexes_more c.args.chains.now c.loop-chain.indexes.items c.push.new.self.items c.loop-chain.chain-index c.chain-item.result c.rules.result.now c.in_ok-index.index
          c.loop-chain-test.true c.chain-item.is c.rules.ensures counted c.loop-chain.invariant.each c.in_ok-index.ensures c.in_ok-push.ensures.items;
    }
