use Rattle.std.proofs.Common.{◌≡◌, ◌<◌, ℕ, slice_get, Some}
use Rattle.ofp_rules.specs.declared.entry.Entry.{Entry}
use Rattle.ofp_rules.specs.Ambiguity.{Contradict}
use Rattle.ofp_rules.proofs.table.first_against.Given as goal

abbrev pub invariant-loop-first : goal.invariant-loop-first
invariant-loop-first l =
    (j : ℕ) (e : Entry) → j < l.first → slice_get l.earlier j ≡ Some e → Contradict e l.entry → ⊥
