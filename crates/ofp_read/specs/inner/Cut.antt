-- How the parser walks through a flow line. Callers do not see this; they use `Grammar` and `Unwritten`.
use Rattle.std.specs.Prelude.{◌≡◌, ◌⊎◌, ℕ, Bool, false, List, [], ◌∷◌, ◌++◌, All, IsTrue, codes, bytes_eq, take}
use Rattle.ofp_read.specs.Grammar.{is_separator}

abbrev pub begins_action : List ℕ → Bool
begins_action text = bytes_eq (take 8 text) (codes "actions=")

-- The text before the first separator, and the text behind it; without a separator, the whole text and no more.
pub record IsCut (text piece behind : List ℕ) : Type 0 where
  pub whole : All (λ b. is_separator b ≡ false) piece
  pub cut : ((text ≡ piece) × (behind ≡ [])) ⊎ ((s : ℕ) × IsTrue (is_separator s) × (text ≡ piece ++ s ∷ behind))
