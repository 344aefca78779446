-- Absence of conflicts between elements, and the first conflict.
use Rattle.std.specs.Prelude.{◌≡◌, Bool, true, not, ◌&&◌, IsTrue, List, [], ◌∷◌, ◌++◌}
use Rattle.std.specs.List.{list_all}
use Rattle.text_core.specs.FirstMatch.{Conflict}

-- No later element is in the relation with an earlier one.
abbrev pub no_pair : {A : Type 0} → (A → A → Bool) → List A → Bool
no_pair r [] = true
no_pair r (x ∷ xs) = list_all (λ y. not (r y x)) xs && no_pair r xs

-- p is the first conflict: no element before p.later conflicts with an earlier one, and p.earlier is the first element with which p.later
-- conflicts.
pub record IsFirstConflict {A : Type 0} (conflicts : A → A → Bool) (xs : List A) (p : Conflict A) : Type 0 where
  pub before : List A
  pub between : List A
  pub behind : List A
  pub whole : xs ≡ before ++ (p.earlier ∷ (between ++ (p.later ∷ behind)))
  pub barred : IsTrue (conflicts p.later p.earlier)
  pub earliest : IsTrue (list_all (λ y. not (conflicts p.later y)) before)
  pub first : IsTrue (no_pair conflicts (before ++ (p.earlier ∷ between)))
