-- Paths of a hierarchy: names joined by slashes (the description's format, docs/FORMATS.md).
use Rattle.std.specs.Prelude.{◌≡◌, ℕ, Bool, ◌&&◌, ◌==◌, nat_le, List, ◌++◌, length}
use Rattle.std.specs.List.{list_all, slice_split}
use Rattle.text_core.specs.Name.{is_name}

-- The strings between the slashes (byte 47).
abbrev pub segments : List ℕ → List (List ℕ)
segments bytes = slice_split (λ b. b == 47) bytes

-- There are at most 16 segments, and each is a legal name.
abbrev pub are_names : List (List ℕ) → Bool
are_names path = nat_le (length path) 16 && list_all is_name path

-- A path consists of 1 to 16 names.
abbrev pub is_path : List ℕ → Bool
is_path bytes = are_names (segments bytes)

-- The path begins with all segments of `front`.
abbrev pub IsPrefix : List (List ℕ) → List (List ℕ) → Type 0
IsPrefix front path = (rest : List (List ℕ)) × (path ≡ front ++ rest)
