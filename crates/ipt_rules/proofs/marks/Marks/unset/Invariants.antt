use Rattle.std.proofs.Common.{◌≡◌, take, map}
use Rattle.ipt_rules.specs.inner.Marking.{no_marks}
use Rattle.ipt_rules.proofs.marks.Marks.unset.Given as goal

abbrev pub invariant-loop-chain : goal.invariant-loop-chain
invariant-loop-chain l = map (λ row. row.items) l.rows.items ≡ no_marks (take l.chain-index l.chains)
