use Rattle.std.proofs.Common.{take}
use Rattle.ipt_rules.specs.inner.Ranks.{Visits}
use Rattle.ipt_rules.proofs.loops.visit.Given as goal

abbrev pub invariant-loop-chain : goal.invariant-loop-chain
invariant-loop-chain l =
    Visits (take l.chain-index l.row) l.fn.seen.items l.fn.left.items l.seen.items l.left.items
