-- A line grammar: the meaning of a text, line by line. Comments are skipped.
use Rattle.std.specs.Prelude.{◌≡◌, ℕ, ◌+◌, List, [], ◌∷◌, IsTrue, IsFalse, ◌⊎◌}
use Rattle.text_core.specs.Lines.{is_comment}

-- A line grammar: each line that is no comment is a transition from one state to the next, as `IsLine` defines.
abbrev pub Follows : {S : Type 0} → (ℕ → S → List ℕ → S → Type 0) → ℕ → S → List (List ℕ) → S → Type 0
Follows IsLine n s [] u = s ≡ u
Follows {S = S} IsLine n s (l ∷ ls) u = (IsTrue (is_comment l) × Follows IsLine (n + 1) s ls u) ⊎ ((t : S) × IsFalse (is_comment l) × IsLine n s l t × Follows IsLine (n + 1) t ls u)
