use Rattle.std.proofs.Common.{◌≡◌, map, drop, Bor, List, ℕ}
use Rattle.std.specs.List.{list_all}
use Rattle.text_core.specs.Name.{is_name}
use Rattle.desc_core.proofs.templates.are_names.Given as goal

abbrev pub invariant-loop-word : goal.invariant-loop-word
invariant-loop-word l =
    list_all is_name (map (λ (word : Bor (List ℕ)). word.now) (drop l.word-index l.words)) ≡ list_all is_name (map (λ (word : Bor (List ℕ)). word.now) l.words)
