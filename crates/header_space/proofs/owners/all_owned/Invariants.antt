use Rattle.std.proofs.Common.{◌≡◌, ◌++◌, map, drop}
use Rattle.std.specs.List.{All}
use Rattle.header_space.specs.Owners.{IsOwned, owners_from, owners_of}
use Rattle.header_space.proofs.owners.all_owned.Given as goal

abbrev pub invariant-loop-host : goal.invariant-loop-host
invariant-loop-host l = record {
  owners : map (λ x. x.owner) l.owned.items ++ owners_from l.host (drop l.host l.hosts) ≡ owners_of l.hosts;
  each : All (IsOwned l.hosts) l.owned.items;
}
