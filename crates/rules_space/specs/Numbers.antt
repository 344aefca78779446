-- Numbers for which a test is true.
use Rattle.std.specs.Prelude.{ℕ, Bool, List}
use Rattle.std.specs.List.{filter, range_with_len}

-- The numbers below a limit for which a test is true, in ascending order.
unfoldable pub numbers_where : (test : ℕ → Bool) → (limit : ℕ) → List ℕ
numbers_where test limit = filter test (range_with_len 0 limit)
