-- The refusal of the first condition that applies, or the fact that none of the conditions applies.
use Rattle.std.specs.Prelude.{◌≡◌, ℕ, ◌+◌, ◌<◌, List, slice_get, Option, Some, None, is_none, IsTrue}
use Rattle.std.specs.List.{list_all}
use Rattle.desc_form.specs.Refusals.{number}
use Rattle.desc_form.specs.declared.refusal.Refusal.{Refusal}

-- The conditions are numbered from n on; r is the refusal of one of them, its cause has the number of that condition, and no condition with
-- a smaller number applies.
pub record IsLeast (n : ℕ) (conditions : List (Option Refusal)) (r : Refusal) : Type 0 where
  pub before : ℕ
  pub numbered : number r.why ≡ n + before
  pub refuses : slice_get conditions before ≡ Some (Some r)
  pub first : (j : ℕ) → j < before → slice_get conditions j ≡ Some None

-- None of the conditions refuses anything.
abbrev pub NoneHolds : List (Option Refusal) → Type 0
NoneHolds conditions = IsTrue (list_all is_none conditions)
