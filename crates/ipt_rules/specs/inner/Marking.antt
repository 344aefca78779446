-- Updates of the marks of rules. These definitions are internal; callers use `Marks`.
use Rattle.std.specs.Prelude.{Bool, true, false, List}
use Rattle.std.specs.Prelude.{map, replicate, length, slice_set}
use Rattle.ipt_rules.specs.declared.marks.Place.{Place}
use Rattle.ipt_rules.specs.Chain.{Chain}
use Rattle.ipt_rules.specs.Marks.{marks_of}

-- No rule of the chains is marked.
abbrev pub no_marks : List Chain → List (List Bool)
no_marks chains = map (λ x. replicate (length x.rules) false) chains

-- The marks with the rule at a place marked.
abbrev pub with_mark : List (List Bool) → Place → List (List Bool)
with_mark marks place = slice_set marks place.chain (slice_set (marks_of marks place.chain) place.rule true)

-- The marks with the rule at a place marked if it matches.
abbrev pub with_mark_if : Bool → List (List Bool) → Place → List (List Bool)
with_mark_if false marks place = marks
with_mark_if true marks place = with_mark marks place
