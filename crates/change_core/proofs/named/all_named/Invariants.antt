use Rattle.std.proofs.Common.{◌≡◌, ◌++◌, map, drop}
use Rattle.std.specs.List.{All}
use Rattle.header_space.specs.Owners.{owners_from, owners_of}
use Rattle.change_core.specs.inner.Naming.{IsNamed}
use Rattle.change_core.proofs.named.all_named.Given as goal

abbrev pub invariant-loop-number : goal.invariant-loop-number
invariant-loop-number l = record {
  owners : map (λ x. x.owner) l.owned.items ++ owners_from l.number (drop l.number (l.new ++ l.old)) ≡ owners_of (l.new ++ l.old);
  each : All (IsNamed l.new l.old) l.owned.items;
}
