use Rattle.std.proofs.Common.{◌≡◌, Bor, List, ℕ, map, drop, length}
use Rattle.attr_core.specs.inner.AssignView.{given_of}
use Rattle.attr_core.specs.inner.OwnTablesWalk.{kinds_after}
use Rattle.attr_core.proofs.own_table.take_kinds.Given as goal

abbrev pub invariant-loop-assign : goal.invariant-loop-assign
invariant-loop-assign l = record {
  table : l.rule.table ≡ l.fn.rule.table;
  sized : length l.rule.hosts ≡ length l.fn.rule.hosts;
  same :
      kinds_after (map (λ (known : Bor (List ℕ)). known.now) l.words) l.rule.hosts (map given_of (drop l.assign-index l.assigns))
      ≡ kinds_after (map (λ (known : Bor (List ℕ)). known.now) l.words) l.fn.rule.hosts (map given_of l.assigns);
}
