-- A bound on the flows that a host sends. A list has the bound of each host, in order of the hosts.
use Rattle.std.specs.Prelude.{ℕ, ◌<◌, ◌≤◌, ◌==◌, List, length, filter, slice_index_or}
use Rattle.flow_set.specs.declared.flow.Flow.{Flow}

-- The flows of the set that the host sends.
abbrev pub sent_by : ℕ → List Flow → List Flow
sent_by host e = filter (λ f. f.from == host) e

-- No host sends more flows than its bound.
abbrev pub KeepsLimits : List ℕ → List Flow → Type 0
KeepsLimits limits e = (host : ℕ) → host < length limits → length (sent_by host e) ≤ slice_index_or limits host 0
