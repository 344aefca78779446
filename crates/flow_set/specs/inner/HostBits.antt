-- The representation of a set of hosts as bits. No clause of a public call mentions them.
use Rattle.std.specs.Prelude.{ℕ, ◌-◌, ◌≤◌, ◌<◌, Bool, ◌==◌, nat_lt, if◌then◌else◌, IsTrue}
use Rattle.std.specs.Int.{bit_at}
use Rattle.flow_set.specs.inner.Calls.{HasNone}

-- The bit of a host is set: `low` has the bits of the hosts below 128, `high` those of the other hosts.
abbrev pub is_marked : ℕ → ℕ → ℕ → Bool
is_marked low high host = if nat_lt host 128 then bit_at low host == 1 else bit_at high (host - 128) == 1

-- The bit at index `place` is set.
abbrev pub is_set : ℕ → ℕ → Bool
is_set bits place = bit_at bits place == 1

-- `first` is the first index from `from` on whose bit is set.
pub record IsFirstBit (bits from first : ℕ) : Type 0 where
  pub late : from ≤ first
  pub below : first < 128
  pub set : IsTrue (is_set bits first)
  pub none_before : HasNone (is_set bits) from first
