-- Marks on the rules of chains.
use Rattle.std.specs.Prelude.{◌≡◌, ℕ, Bool, false, List, [], length, slice_get}
use Rattle.std.specs.Option.{option_map_or, unwrap_or}
use Rattle.ipt_rules.specs.declared.marks.Place.{Place}
use Rattle.ipt_rules.specs.Chain.{Chain, rules_of}

-- The marks of chain c, one for each rule.
abbrev pub marks_of : List (List Bool) → ℕ → List Bool
marks_of marks c = option_map_or (λ row. row) (slice_get marks c) []

-- Whether the rule at a place is marked.
abbrev pub is_marked : List (List Bool) → Place → Bool
is_marked marks place = unwrap_or (slice_get (marks_of marks place.chain) place.rule) false

-- The marks are those of the chains: each chain has as many marks as rules.
abbrev pub AreMarksOf : List (List Bool) → List Chain → Type 0
AreMarksOf marks chains = (c : ℕ) → length (marks_of marks c) ≡ length (rules_of chains c)
