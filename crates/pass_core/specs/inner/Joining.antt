-- Appending a range to a list of ranges. Internal: callers use `Passing`.
use Rattle.std.specs.Prelude.{◌≡◌, List, [], ◌∷◌, ◌++◌, Option, Some, None}
use Rattle.host_net.specs.declared.packet.Packet.{Packet}
use Rattle.pass_core.specs.declared.passing_range.PassingRange.{PassingRange}
use Rattle.pass_core.specs.declared.survey.Survey.{Survey}
use Rattle.pass_core.specs.Passing.{GoesOn}
use Rattle.pass_core.specs.inner.Numbers.{number}

-- The range is extended to the end of another range.
abbrev pub extended : PassingRange → PassingRange → PassingRange
extended last r = record { low = last.low; high = r.high; passes = last.passes; stays = last.stays }

-- The range is appended to the list: as its first range, by extending its last range, or after its last range.
pub data Joins (old : List PassingRange) (r : PassingRange) (new : List PassingRange) : Type 0 where
  begins : old ≡ [] → new ≡ r ∷ [] → Joins old r new
  extends : (rest : List PassingRange) (last : PassingRange) → old ≡ rest ++ last ∷ [] → GoesOn last r → new ≡ rest ++ extended last r ∷ [] → Joins old r new
  follows : (rest : List PassingRange) (last : PassingRange) → old ≡ rest ++ last ∷ [] → (GoesOn last r → ⊥) → new ≡ (rest ++ last ∷ []) ++ r ∷ []
      → Joins old r new

-- The range of the services of a survey, in which packet p passes.
abbrev pub range_of : Survey → Packet → PassingRange
range_of s p = record { low = number s.first; high = number s.last; passes = p; stays = s.stays }

-- The range of the survey is appended if a packet passes.
abbrev pub AppendsIf : Survey → Option Packet → List PassingRange → List PassingRange → Type 0
AppendsIf s None old new = new ≡ old
AppendsIf s (Some p) old new = Joins old (range_of s p) new

abbrev pub Appends : Survey → List PassingRange → List PassingRange → Type 0
Appends s old new = AppendsIf s s.passes old new
