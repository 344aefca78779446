-- Files that are stored in memory, and the map that is their model.
use Rattle.std.specs.Prelude.{ℕ, Bool, List, map, bytes_eq, string_bytes}
use Rattle.std.specs.FinMap.{from_entries}
use Rattle.edge_io.specs.declared.stored_files.StoredFile.{StoredFile}
use Rattle.edge_io.specs.Observable.{Files}

-- The file has that name.
abbrev pub is_named : List ℕ → StoredFile → Bool
is_named name file = bytes_eq name (string_bytes file.name)

-- The name of a file and its bytes.
abbrev pub entry_of : StoredFile → List ℕ × List ℕ
entry_of file = (string_bytes file.name, file.bytes.items)

-- The map of the files.
abbrev pub files_in : List StoredFile → Files
files_in stored = from_entries (map entry_of stored)
