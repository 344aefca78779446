-- Saturating 64-bit counts.
use Rattle.std.specs.Prelude.{ℕ, ◌+◌, ◌-◌, ◌^◌, ◌≤◌, min}

-- The count after n more. It saturates at 18,446,744,073,709,551,615.
abbrev pub more : ℕ → ℕ → ℕ
more count n = min (count + n) (2 ^ 64 - 1)

-- The count increased: it is greater than before, or it is saturated.
abbrev pub Rose : ℕ → ℕ → Type 0
Rose before now = more before 1 ≤ now
