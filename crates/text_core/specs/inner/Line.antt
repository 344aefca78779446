-- Lines in a buffer of fixed size.
use Rattle.std.specs.Prelude.{ℕ, List, take}

-- The prefix that fits a buffer of `room` bytes.
unfoldable pub cut : ℕ → List ℕ → List ℕ
cut room bs = take room bs
