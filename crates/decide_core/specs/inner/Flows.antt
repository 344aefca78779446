-- What the flows of pairs are computed from. Callers see none of it; they have `Flows`.
use Rattle.std.specs.Prelude.{◌<◌}
use Rattle.std.specs.List.{All}
use Rattle.pass_core.specs.Services.{service_count}
use Rattle.pass_core.specs.declared.pairs.PairServices.{PairServices}

-- The ranges of the pair have services only.
abbrev pub HasServices : PairServices → Type 0
HasServices s = All (λ r. r.high < service_count) s.ranges.items
