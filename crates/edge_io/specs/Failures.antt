-- An optional guarantee of a kind of shelf or of sink about the faults that it counts.
use Rattle.std.specs.Prelude.{◌≡◌, ℕ, Result, List, OnOk}
use Rattle.edge_io.specs.declared.faults.Failed.{Failed}
use Rattle.edge_io.specs.declared.traits.Shelf.{Ghosts}

-- Each call of this kind counts a fault only if it fails.
abbrev pub CountsOnlyFailures : {S T : Type 0} → (S → ℕ) → (S → List ℕ → Result T Failed → S → Type 0) → Type 0
CountsOnlyFailures {S = S} {T = T} faults gives =
    (old : S) (bytes : List ℕ) (result : Result T Failed) (new : S) → gives old bytes result new → OnOk result (faults new ≡ faults old)

-- The same for each call of a shelf of this kind.
abbrev pub ShelfCountsOnlyFailures : {S : Type 0} → Ghosts S → Type 0
ShelfCountsOnlyFailures H = CountsOnlyFailures H.faults H.begin_gives × CountsOnlyFailures H.faults H.read_gives
