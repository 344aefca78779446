-- The effects of single calls of a shelf or a sink: the fault that a call counts, the file that it opens, the pieces that it writes.
use Rattle.std.specs.Prelude.{◌≡◌, ℕ, Result, is_err, if◌then◌else◌, Option, List, IsSome, IfSome}
use Rattle.edge_io.specs.declared.faults.Failed.{Failed}
use Rattle.edge_io.specs.Counts.{more}
use Rattle.std.specs.Option.{option_and_then}
use Rattle.std.specs.FinMap.{get}
use Rattle.edge_io.specs.Observable.{Files}
use Rattle.std.specs.List.{flat_map}
use Rattle.std.specs.Borrow.{Bor}

-- A call that failed counts one fault, and any other none.
abbrev pub CountsFault : {T E : Type 0} → Result T E → ℕ → ℕ → Type 0
CountsFault result before now = now ≡ (if is_err result then more before 1 else before)

-- Each call of this kind that fails counts one fault, and any other none.
abbrev pub CountsOnce : {S T : Type 0} → (S → ℕ) → (S → List ℕ → Result T Failed → S → Type 0) → Type 0
CountsOnce {S = S} {T = T} faults gives =
    (old : S) (bytes : List ℕ) (result : Result T Failed) (new : S) → gives old bytes result new → CountsFault result (faults old) (faults new)

-- The bytes of the file of that name, if the files of the shelf are observable and it exists.
abbrev pub observed_file : Option Files → List ℕ → Option (List ℕ)
observed_file told name = option_and_then (λ files. get files name) told

-- If the files of the shelf are observable, one of them has that name.
abbrev pub HasIfObservable : Option Files → List ℕ → Type 0
HasIfObservable told name = IfSome told (λ files. IsSome (get files name))

-- The concatenation of the pieces.
abbrev pub joined : List (Bor (List ℕ)) → List ℕ
joined pieces = flat_map (λ piece. piece.now) pieces
