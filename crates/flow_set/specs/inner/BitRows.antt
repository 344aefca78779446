-- The representation of a flow set as a matrix: one row of receivers for each sender. No clause of a public call
-- mentions rows.
use Rattle.std.specs.Prelude.{filter, not, ◌≡◌, ◌≢◌, ℕ, zero, suc, ◌<◌, ◌≤◌, Bool, List, [], ◌∷◌, ◌++◌, length, IsTrue, if◌then◌else◌}
use Rattle.std.specs.FinSet as set
use Rattle.flow_set.specs.declared.flow.Flow.{Flow}
use Rattle.flow_set.specs.Flow.{before}
use Rattle.flow_set.specs.FlowSet.{has}
use Rattle.flow_set.specs.HostSet.{HostNumbers}
use Rattle.flow_set.specs.inner.HostSet.{row_of}

-- The rows contain the flow.
abbrev pub marks : List HostNumbers → Flow → Bool
marks rows f = set.contains (row_of rows f.from) f.to

abbrev pub singleton_if : Bool → Flow → List Flow
singleton_if b f = if b then f ∷ [] else []

-- The flows from i to the hosts below n in the row.
unfoldable pub row_flows : ℕ → HostNumbers → ℕ → List Flow
row_flows i row zero = []
row_flows i row (suc n) = row_flows i row n ++ singleton_if (set.contains row n) (record { from = i; to = n })

-- The flows of the first m rows to hosts below n.
unfoldable pub rows_flows : List HostNumbers → ℕ → ℕ → List Flow
rows_flows rows n zero = []
rows_flows rows n (suc m) = rows_flows rows n m ++ row_flows m (row_of rows m) n

abbrev pub flows_of : List HostNumbers → ℕ → List Flow
flows_of rows n = rows_flows rows n n

-- The rows of a set of flows between n hosts.
pub record AreRows (n : ℕ) (rows : List HostNumbers) : Type 0 where
  pub small : n ≤ 256
  pub counted : length rows ≡ n
  pub flows : (f : Flow) → f.from < n → IsTrue (marks rows f) → (f.to < n) × (f.from ≢ f.to)

-- The flows that remain in an iteration, from position p on.
abbrev pub flows_from : List Flow → Flow → List Flow
flows_from fs p = filter (λ f. not (before f p)) fs

-- The flows before the two positions are the same.
abbrev pub IsAsFar : List Flow → Flow → Flow → Type 0
IsAsFar fs p q = (g : Flow) → IsTrue (has fs g) → before g p ≡ before g q
