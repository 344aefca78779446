-- Sets of hosts.
use Rattle.std.specs.Prelude.{ℕ, zero, suc, Bool, if◌then◌else◌}
use Rattle.std.specs.FinSet as set
use Rattle.std.specs.Ordering.{nat_cmp}

-- A set of host numbers.
abbrev pub HostNumbers : Type 0
HostNumbers = set.FinSet nat_cmp

-- The hosts with numbers below n that satisfy the test.
unfoldable pub hosts_below : ℕ → (ℕ → Bool) → HostNumbers
hosts_below zero test = set.empty
hosts_below (suc n) test = if test n then set.insert (hosts_below n test) n else hosts_below n test
