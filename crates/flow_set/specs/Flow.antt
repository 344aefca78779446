-- Flows between numbered hosts, and their order.
use Rattle.std.specs.Prelude.{ℕ, ◌<◌, ◌≢◌, Bool, ◌&&◌, ◌||◌, ◌==◌, nat_lt}
use Rattle.flow_set.specs.declared.flow.Flow.{Flow}

-- A flow between two different hosts, with numbers below n.
abbrev pub IsFlow : ℕ → Flow → Type 0
IsFlow n f = (f.from < n) × (f.to < n) × (f.from ≢ f.to)

-- The order of flows: by `from`, then by `to`.
abbrev pub before : Flow → Flow → Bool
before f g = nat_lt f.from g.from || ((f.from == g.from) && nat_lt f.to g.to)

-- The two flows have the same sender and the same receiver.
abbrev pub same_flow : Flow → Flow → Bool
same_flow f g = (f.from == g.from) && (f.to == g.to)

-- The reverse of a flow.
abbrev pub reverse_of : Flow → Flow
reverse_of f = record { from = f.to; to = f.from }
