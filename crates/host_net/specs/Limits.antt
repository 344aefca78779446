-- Size limits of a network.
use Rattle.std.specs.Prelude.{ℕ}

-- The greatest number of hosts.
abbrev pub host_limit : ℕ
host_limit = 256

-- The greatest number of prefixes of all hosts together.
abbrev pub prefix_limit : ℕ
prefix_limit = 1024

-- The greatest number of invariants.
abbrev pub invariant_limit : ℕ
invariant_limit = 16
