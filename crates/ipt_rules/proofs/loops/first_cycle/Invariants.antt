use Rattle.std.proofs.Common.{◌<◌, ℕ}
use Rattle.ipt_rules.specs.Loops.{Leads}
use Rattle.ipt_rules.specs.inner.Ranks.{row_of}
use Rattle.ipt_rules.proofs.loops.first_cycle.Given as goal

abbrev pub invariant-loop-chain : goal.invariant-loop-chain
invariant-loop-chain l = (d : ℕ) → d < l.chain → Leads (row_of l.table) d d → ⊥
