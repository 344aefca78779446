use Rattle.std.proofs.Common.{◌≡◌, ◌+◌, ◌++◌, ℕ, List, drop}
use Rattle.std.specs.List.{flat_map}
use Rattle.std.specs.Prelude.{codes, decimal}
use Rattle.text_core.specs.FirstMatch.{Numbered, numbered_from}
use Rattle.sample_core.specs.Sample.{count_line, offending_lines}
use Rattle.sample_core.proofs.printed.push_offending.Given as goal

-- The lines of counts, the first of which has this number.
abbrev lines_from : ℕ → List ℕ → List ℕ
lines_from number counts = flat_map (λ (told : Numbered ℕ). count_line (codes "offending " ++ decimal told.number) told.what) (numbered_from number counts)

-- The text followed by the remaining lines is the whole text.
abbrev pub invariant-loop-place : goal.invariant-loop-place
invariant-loop-place l =
    l.text.items ++ lines_from (l.place + 1) (drop l.place l.offending) ≡ l.fn.text.items ++ offending_lines l.offending
