use Rattle.std.proofs.Common.{◌≡◌, length}
use Rattle.std.specs.List.{All}
use Rattle.std.specs.FinSet as set
use Rattle.change_core.proofs.sharing.Sharing.nothing.Given as goal

abbrev pub invariant-loop : goal.invariant-loop
invariant-loop l = record {
  counted : length l.hosts.items ≡ l.counter;
  empty : All (λ r. r ≡ set.empty) l.hosts.items;
}
