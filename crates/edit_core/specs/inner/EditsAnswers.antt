-- The results of the parser of edits for a line and for its parts. Callers do not see this.
use Rattle.std.specs.Prelude.{◌≡◌, ◌++◌, ℕ, true, false, List, Option, Some, None, Result, Ok, Err}
use Rattle.std.specs.List.{list_all}
use Rattle.std.specs.Str.{is_utf8}
use Rattle.text_core.specs.declared.faults.LineFault.{LineFault}
use Rattle.text_core.specs.declared.faults.LineFault.TheVariants.{Bad, Memory}
use Rattle.text_core.specs.declared.faults.ListWhy.{ListWhy}
use Rattle.text_core.specs.declared.faults.ListWhy.TheVariants.{BadValue}
use Rattle.edit_core.specs.Edit as meant
use Rattle.edit_core.specs.inner.EditView.{change_view}
use Rattle.edit_core.specs.declared.edit.Change.{Change}

-- The parse result of a line agrees with the definition. Memory may run out instead at any time.
abbrev pub Says : Result meant.Change ListWhy → Result Change (LineFault ListWhy) → Type 0
Says said (Ok change) = said ≡ Ok (change_view change)
Says said (Err (Bad why)) = said ≡ Err why
Says said (Err Memory) = Unit {0}

-- The same for a value that a string denotes, if it denotes one.
abbrev pub SaysValue : {A : Type 0} → Option A → Result A (LineFault ListWhy) → Type 0
SaysValue said (Ok x) = said ≡ Some x
SaysValue said (Err (Bad why)) = (said ≡ None) × (why ≡ BadValue)
SaysValue said (Err Memory) = Unit {0}

-- Tokens that are appended to a list of strings are valid UTF-8.
abbrev pub PutsTexts : List (List ℕ) → (old new : List (List ℕ)) → {A : Type 0} → Result A (LineFault ListWhy) → Type 0
PutsTexts ws old new (Ok x) = (list_all is_utf8 ws ≡ true) × (new ≡ old ++ ws)
PutsTexts ws old new (Err (Bad why)) = (list_all is_utf8 ws ≡ false) × (why ≡ BadValue)
PutsTexts ws old new (Err Memory) = Unit {0}
