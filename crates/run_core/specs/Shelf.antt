-- What one call observes of its shelf.
use Rattle.std.specs.Prelude.{◌≡◌, ℕ, ◌+◌, ◌≤◌, ◌⊎◌, List, length, min, Option, None, Some, IfSome}
use Rattle.std.specs.FinMap.{get}
use Rattle.edge_io.specs.Counts.{more, Rose}
use Rattle.edge_io.specs.Failures.{ShelfCountsOnlyFailures}
use Rattle.edge_io.specs.Observable.{Files, Lacks}
use Rattle.edge_io.specs.declared.traits.Shelf.{Ghosts}

-- The files of a shelf, if they are observable, and its counts: of errors, of opened files, and of the bytes read from the last of them.
pub record Shelf : Type 0 where
  pub told : Option Files
  pub faults : ℕ
  pub begins : ℕ
  pub taken : ℕ

-- A shelf before and after a call, and whether it counts an error only if a call fails.
pub record ShelfChange : Type 1 where
  pub before : Shelf
  pub after : Shelf
  pub only_failures : Type 0

-- A shelf as its implementation models it.
abbrev pub shelf_view : {S : Type 0} → Ghosts S → S → Shelf
shelf_view H shelf = record { told = H.files shelf; faults = H.faults shelf; begins = H.begins shelf; taken = H.taken shelf }

-- A shelf before and after a call, as its implementation models it.
abbrev pub shelf_change : {S : Type 0} → Ghosts S → (old new : S) → ShelfChange
shelf_change H old new = record { before = shelf_view H old; after = shelf_view H new; only_failures = ShelfCountsOnlyFailures H }

-- The change of the shelf from this state on.
abbrev pub since : Shelf → ShelfChange → ShelfChange
since shelf change = record { before = shelf; after = change.after; only_failures = change.only_failures }

-- If the files of the shelf are observable, the file has these bytes.
abbrev pub Holds : Shelf → (name bytes : List ℕ) → Type 0
Holds shelf name bytes = IfSome shelf.told (λ files. get files name ≡ Some bytes)

-- The observation of a file. If the files are observable, the observed bytes are those of the file. A file is
-- unavailable only if the count of errors increased, or if an observable shelf lacks it.
abbrev pub ObservesFile : ShelfChange → (name : List ℕ) → Option (List ℕ) → Type 0
ObservesFile shelf name None = Rose shelf.before.faults shelf.after.faults ⊎ Lacks shelf.before.told name
ObservesFile shelf name (Some bytes) = Holds shelf.before name bytes

-- The number of bytes that are read of a file: all, or one more than the limit.
abbrev pub taken_of : (most : ℕ) → List ℕ → ℕ
taken_of most bytes = min (length bytes) (most + 1)

-- One file was opened. The files are unchanged, and the count of errors did not decrease.
pub record BeganOne (before after : Shelf) : Type 0 where
  pub told : after.told ≡ before.told
  pub faults_monotone : before.faults ≤ after.faults
  pub begins : after.begins ≡ more before.begins 1

-- A file with these bytes was read, with this limit. No error was counted if the shelf counts only calls that fail; otherwise the call may
-- have recovered from some errors.
pub record ConsumesBytes (only_failures : Type 0) (most : ℕ) (bytes : List ℕ) (before after : Shelf) : Type 0 where
  pub began : BeganOne before after
  pub no_fault : only_failures → after.faults ≡ before.faults
  pub taken : after.taken ≡ taken_of most bytes
