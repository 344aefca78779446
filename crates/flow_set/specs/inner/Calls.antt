-- Results of single calls on a set of hosts: the first host from a number on, and whether two sets are disjoint.
use Rattle.std.specs.Prelude.{ℕ, ◌≤◌, ◌<◌, IsTrue, IsFalse, Bool}
use Rattle.std.specs.FinSet as set
use Rattle.flow_set.specs.HostSet.{HostNumbers}

-- No number from `from` on and below `end` satisfies the test.
abbrev pub HasNone : (ℕ → Bool) → ℕ → ℕ → Type 0
HasNone test from end = (k : ℕ) → from ≤ k → k < end → IsFalse (test k)

-- `first` is the first number from `from` on that satisfies the test.
pub record IsFirstFrom (test : ℕ → Bool) (from first : ℕ) : Type 0 where
  pub late : from ≤ first
  pub below : first < 256
  pub passes : IsTrue (test first)
  pub none_before : HasNone test from first

-- The two sets are disjoint.
abbrev pub AreApart : HostNumbers → HostNumbers → Type 0
AreApart s t = (host : ℕ) → IsTrue (set.contains s host) → IsTrue (set.contains t host) → ⊥
