-- The line that reports a rejected line-oriented file: its first bad line and the reason (docs/TEXTS.md).
use Rattle.std.specs.Prelude.{◌≡◌, ℕ, List, ◌++◌, codes, decimal}

-- A line by its number, from 1, and the reason. Line 0 means the whole file.
abbrev pub fault_line : (text : List ℕ) → (line : ℕ) → (reason : List ℕ) → List ℕ
fault_line text line reason = codes "topos: " ++ (text ++ (codes ": line " ++ (decimal line ++ (codes ": " ++ (reason ++ codes "\n")))))

-- The line reports an error of the bytes, for this kind of file. A file of rules has the same name in every dialect.
pub record ReportsFault {Why : Type 0} (text : List ℕ) (reason_of : Why → List ℕ) (HasFault : List ℕ → ℕ → Why → Type 0) (bytes line : List ℕ) : Type 0 where
  pub number : ℕ
  pub why : Why
  pub fault : HasFault bytes number why
  pub told : line ≡ fault_line text number (reason_of why)
