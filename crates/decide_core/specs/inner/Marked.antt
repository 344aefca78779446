-- The places of marked rules. Internal: callers use `Deciders`.
use Rattle.std.specs.Prelude.{◌↔◌, ℕ, Bool, not, IsTrue, List}
use Rattle.ipt_rules.specs.declared.marks.Place.{Place}
use Rattle.ipt_rules.specs.Marks.{is_marked}
use Rattle.rules_space.specs.Numbers.{numbers_where}
use Rattle.pass_core.specs.Dead.{AreAscending, is_listed}

-- The rule at the place is marked.
abbrev pub IsMarked : List (List Bool) → Place → Type 0
IsMarked marks place = IsTrue (is_marked marks place)

-- The places are those of the marked rules, in ascending order.
pub record AreMarked (marks : List (List Bool)) (places : List Place) : Type 0 where
  pub ascending : AreAscending places
  pub exact : (place : Place) → IsTrue (is_listed places place) ↔ IsMarked marks place

-- The place of entry n of a flow table.
abbrev pub entry_at : ℕ → Place
entry_at n = record { chain = 0; rule = n }

-- The numbers of the unmarked entries among the first n, in ascending order.
abbrev pub unmarked_below : List (List Bool) → ℕ → List ℕ
unmarked_below marks n = numbers_where (λ k. not (is_marked marks (entry_at k))) n
