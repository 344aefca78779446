-- Properties of each host of a set. No clause of a public call mentions it.
use Rattle.std.specs.Prelude.{ℕ, IsTrue}
use Rattle.std.specs.FinSet as set
use Rattle.flow_set.specs.HostSet.{HostNumbers}

abbrev pub EachOf : HostNumbers → (ℕ → Type 0) → Type 0
EachOf hosts P = (host : ℕ) → IsTrue (set.contains hosts host) → P host
