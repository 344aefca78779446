-- Texts that grow by appending, for the private steps of a report.
use Rattle.std.specs.Prelude.{◌≡◌, ℕ, List, ◌++◌}

-- The new text is the old one followed by text with this property.
pub record Grows (IsPiece : List ℕ → Type 0) (old new : List ℕ) : Type 0 where
  pub piece : List ℕ
  pub is_piece : IsPiece piece
  pub after : new ≡ old ++ piece
