use Rattle.host_net.proofs.RangesLemmas.{free_next}
use Rattle.host_net.proofs.ranges.with_host.Goals as goal

pub put-requires-clause-free : goal.put-requires-clause-free
put-requires-clause-free c =
    free_next c.args.ranges.now c.loop-prefix.all.items c.args.at.now c.loop-prefix.prefix-index c.args.host c.prefix-item.result
    c.covered.result
    c.loop-prefix-test.true c.prefix-item.is c.covered.ensures.held c.requires.apart c.requires.free c.loop-prefix.invariant.1
