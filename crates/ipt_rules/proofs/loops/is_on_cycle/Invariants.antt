use Rattle.std.proofs.Common.{◌≡◌, ◌+◌, length, not}
use Rattle.std.specs.Prelude.{count_by}
use Rattle.ipt_rules.specs.inner.Ranks.{row_of}
use Rattle.ipt_rules.proofs.SearchLemmas.{IsSearch}
use Rattle.ipt_rules.proofs.loops.is_on_cycle.Given as goal

abbrev pub decreases-loop-next : goal.decreases-loop-next
decreases-loop-next l = length l.left.items + count_by not l.seen.items

abbrev pub invariant-loop-next : goal.invariant-loop-next
invariant-loop-next l = record {
  long : length l.seen.items ≡ length l.table;
  search : IsSearch (row_of l.table) l.chain l.seen.items l.left.items;
}
