-- Ranges of numbers below a limit, and their cuts. Prefixes are ranges of addresses, and port parts are ranges of ports.
use Rattle.std.specs.Prelude.{ℕ, ◌+◌, nat_lt, if◌then◌else◌, List, [], ◌∷◌}

-- The cuts of a range: its first number, and the number after its last number if that number is below the limit.
abbrev pub range_cuts : ℕ → ℕ → ℕ → List ℕ
range_cuts limit first last = first ∷ (if nat_lt (last + 1) limit then (last + 1) ∷ [] else [])
