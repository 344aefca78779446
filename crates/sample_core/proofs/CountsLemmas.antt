-- The text of the numbers, line by line; it is the report of the results with these numbers.
use Rattle.std.proofs.Common.{◌≡◌, ◌++◌, ℕ, List, ap, ◌∙◌, append_assoc}
use Rattle.sample_core.specs.Sample.{sample_text}
use Rattle.sample_core.specs.declared.printed.Counts.{Counts}
use Rattle.sample_core.specs.inner.SampleCounts.{AreCounts, counts_text, rows}

pub counts_told : (n : ℕ) (counts : Counts) (are : AreCounts n counts) → counts_text n counts ≡ sample_text n are.found
counts_told n counts are = λ i.
    rows n (are.hosts i) (are.asked i) (are.offending i) (are.permitted i) (are.stateful i) (are.rules i) (are.table i) (are.events i)
    (are.forwarded i)

-- A text with one more line, before the remaining ones.
pub line_on : (old new line rest whole : List ℕ) → new ≡ old ++ line → old ++ (line ++ rest) ≡ whole → new ++ rest ≡ whole
line_on old new line rest whole pushed so_far = ap (λ text. text ++ rest) pushed ∙ append_assoc old line rest ∙ so_far
