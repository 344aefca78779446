-- Line-oriented list formats with one entry per line, for example event files and edit files: the entries that a file contains, and its
-- first error.
use Rattle.std.specs.Prelude.{◌≡◌, ◌<◌, ◌≤◌, ℕ, List, [], ◌∷◌, ◌++◌, length}
use Rattle.text_core.specs.LineFormat.{LineFormat}
use Rattle.text_core.specs.declared.faults.ListWhy.{ListWhy}
use Rattle.text_core.specs.declared.faults.ListWhy.TheVariants.{TooLong, BadLine, BadValue, TooMany}

-- A list format: the size limit in bytes, the limit on entries, the lines that have the shape of an entry, and the entry that line n
-- encodes.
pub record ListFormat (E : Type 0) : Type 1 where
  pub byte_limit : ℕ
  pub most : ℕ
  pub HasForm : List ℕ → Type 0
  pub Tells : ℕ → List ℕ → E → Type 0

-- Line n adds the entry that it encodes, within the limit.
pub record AddsEntry {E : Type 0} (list : ListFormat E) (n : ℕ) (before : List E) (line : List ℕ) (now : List E) : Type 0 where
  pub entry : E
  pub told : list.Tells n line entry
  pub added : now ≡ before ++ entry ∷ []
  pub few : length before < list.most

-- The reason why line n adds no entry to those before it: it does not have the shape of an entry; or it has the shape, but encodes none; or
-- it encodes one, but the limit is reached already.
pub data IsBad {E : Type 0} (list : ListFormat E) (n : ℕ) (before : List E) (line : List ℕ) : ListWhy → Type 0 where
  bad_line : (list.HasForm line → ⊥) → IsBad list n before line BadLine
  bad_value : list.HasForm line → ((entry : E) → list.Tells n line entry → ⊥) → IsBad list n before line BadValue
  too_many : (entry : E) → list.Tells n line entry → list.most ≤ length before → IsBad list n before line TooMany

-- The line-oriented format of such a file: its lines are entries, and it may end after each of them.
abbrev pub by_lines : {E : Type 0} → ListFormat E → LineFormat (List E) ListWhy
by_lines {E = E} list = record {
  byte_limit = list.byte_limit;
  too_long_reason = TooLong;
  start = [];
  IsLine = AddsEntry list;
  IsBadLine = IsBad list;
  MayEndIn = λ (entries : List E). Unit {0};
  HasEndFault = λ n (entries : List E) line why. ⊥;
}
