use Rattle.std.proofs.Common.{◌≡◌, take, map}
use Rattle.ipt_rules.specs.inner.Ranks.{jump_table}
use Rattle.ipt_rules.proofs.jumps.JumpTable.of.Given as goal

abbrev pub invariant-loop-chain : goal.invariant-loop-chain
invariant-loop-chain l = map (λ row. row.items) l.rows.items ≡ jump_table (take l.chain-index l.chains)
