use Rattle.std.proofs.Common.{◌≡◌, replicate}
use Rattle.std.specs.FinSet as set
use Rattle.reach_core.proofs.rows.Rows.new.Given as goal

abbrev pub invariant-loop : goal.invariant-loop
invariant-loop l = l.rows.items ≡ replicate l.counter set.empty
