-- Lists that contain a set of hosts for each host.
use Rattle.std.specs.Prelude.{ℕ, List, slice_index_or}
use Rattle.std.specs.FinSet as set
use Rattle.flow_set.specs.HostSet.{HostNumbers}

-- The set of one host, in a list with a set for each host.
abbrev pub row_of : List HostNumbers → ℕ → HostNumbers
row_of rows host = slice_index_or rows host set.empty
