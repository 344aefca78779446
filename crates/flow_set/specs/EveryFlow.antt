-- Every flow between n hosts.
use Rattle.std.specs.Prelude.{ℕ, ◌==◌, List, [], ◌∷◌, flat_map, if◌then◌else◌}
use Rattle.std.specs.List.{range_with_len}
use Rattle.flow_set.specs.declared.flow.Flow.{Flow}

-- The flow from i to j, or nothing if they are the same host.
abbrev pub flow_or_none : ℕ → ℕ → List Flow
flow_or_none i j = if i == j then [] else (record { from = i; to = j } ∷ [])

-- Every flow between n hosts, in order.
unfoldable pub every_flow : ℕ → List Flow
every_flow n = flat_map (λ i. flat_map (flow_or_none i) (range_with_len 0 n)) (range_with_len 0 n)
