use Rattle.std.proofs.Common.{◌≡◌, map, drop, Bor, List, ℕ}
use Rattle.desc_core.specs.TemplateConditions.{are_different}
use Rattle.desc_core.proofs.templates.are_different.Given as goal

abbrev pub invariant-loop-index : goal.invariant-loop-index
invariant-loop-index l =
    are_different (map (λ (word : Bor (List ℕ)). word.now) (drop l.index l.words)) ≡ are_different (map (λ (word : Bor (List ℕ)). word.now) l.words)
