-- The open file of a shelf in memory, and its unread bytes.
use Rattle.std.specs.Prelude.{ℕ, ◌≤◌, Option, None, Some, List, [], drop, length, IsSomeAnd}
use Rattle.std.specs.List.{slice_get}
use Rattle.edge_io.specs.declared.stored_files.StoredFile.{StoredFile}
use Rattle.edge_io.specs.declared.begun.Begun.{Begun}

-- The unread bytes, after the first `done`.
abbrev pub bytes_from : Option StoredFile → ℕ → List ℕ
bytes_from None done = []
bytes_from (Some file) done = drop done file.bytes.items

abbrev pub bytes_left : List StoredFile → Option Begun → List ℕ
bytes_left stored None = []
bytes_left stored (Some begun) = bytes_from (slice_get stored begun.place) begun.done

-- The open file exists, and at most its length was read.
abbrev pub IsWithin : List StoredFile → Option Begun → Type 0
IsWithin stored None = Unit {0}
IsWithin stored (Some begun) = IsSomeAnd (slice_get stored begun.place) (λ file. begun.done ≤ length file.bytes.items)
