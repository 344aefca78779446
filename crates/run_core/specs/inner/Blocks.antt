-- The contract of the code that makes room in a block of lines. No promise of `run` depends on it.
use Rattle.std.specs.Prelude.{◌≡◌, ◌⊎◌, ℕ, List, [], Option}
use Rattle.std.specs.Io.KnownBytes.{append_known}

-- The block is unchanged, or it was written and is empty.
abbrev pub HasRoom : (old new : Option (List ℕ)) (waiting left : List ℕ) → Type 0
HasRoom old new waiting left = ((new ≡ old) × (left ≡ waiting)) ⊎ ((new ≡ append_known old waiting) × (left ≡ []))
