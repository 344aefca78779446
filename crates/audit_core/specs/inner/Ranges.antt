-- Numbers of a range, numbers that no cut separates, and protocols that no named protocol separates.
use Rattle.std.specs.Prelude.{◌≡◌, ◌↔◌, ℕ, ◌≤◌, Bool, ◌&&◌, nat_le, List}
use Rattle.std.specs.List.{Contains}

-- The number is from the first number to the last number.
abbrev pub within : ℕ → ℕ → ℕ → Bool
within first last a = nat_le first a && nat_le a last

-- No cut separates the two numbers: each cut is at most the first number iff it is at most the second number.
abbrev pub AreTogether : List ℕ → ℕ → ℕ → Type 0
AreTogether cuts a b = (c : ℕ) → Contains cuts c → (c ≤ a) ↔ (c ≤ b)

-- The two protocols belong to one class: each named protocol equals both or neither.
abbrev pub AreOneProtocol : List ℕ → ℕ → ℕ → Type 0
AreOneProtocol named a b = (n : ℕ) → Contains named n → (n ≡ a) ↔ (n ≡ b)
