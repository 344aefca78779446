use Rattle.std.proofs.Common.{◌≡◌, take}
use Rattle.ofp_rules.specs.inner.Build.{IsTable}
use Rattle.ofp_rules.proofs.table.Table.build.Given as goal

abbrev pub invariant-loop-entry : goal.invariant-loop-entry
invariant-loop-entry l = record {
  so_far : l.table ≡ take l.entry-index l.entry-items;
  is : IsTable l.table;
}
